-- In each reaction of an accepted program that is written of another one the new variables of contracts have the values of the formulas.
use Rattle.std.proofs.Common.{◌≡◌, ◌⊎◌, inl, inr, ℕ, List, [], ◌∷◌, Option, None, Some, refl, sym, ap, subst}
use Rattle.hp_lexer.specs.declared.token.Token.{Token}
use Rattle.hp_lexer.proofs.Unique.{one_list}
use Rattle.hp_parser.specs.Lexemes.{Lexeme, lexemes}
use Rattle.hp_parser.specs.Programs.{IsProgram}
use Rattle.hp_parser.proofs.ParseLaws.{reads_program, only_program}
use Rattle.hp_print.specs.Places.{bare_program}
use Rattle.hp_print.specs.ProgramTokens.{canonical_text}
use Rattle.hp_tree.specs.declared.program.Item.{Item}
use Rattle.hp_tree.specs.declared.program.Item.TheVariants.{TypeItem, NodeItem}
use Rattle.hp_tree.specs.Blocks.{Decl}
use Rattle.hp_tree.specs.Programs.{Contract, Node}
use Rattle.hp_tree.specs.Reaction.{Each}
use Rattle.hp_past.specs.Remembered.{Remembered, variable_of, Keeps, Extends, ExtendsIfAny, ContractsExtend}
use Rattle.hp_past.specs.Remembering.{HasContract}
use Rattle.hp_past.specs.Unfolding.{unfolded}
use Rattle.hp_past.proofs.ExtendedLaws.{contracts-extend}
use Rattle.hp_past.proofs.ReadableLaws.{unfolded-read-back}
use Rattle.law_past.specs.Remembered.{IsChecked}
use Rattle.law_past.specs.OneBit.{IsOneBit}
use Rattle.law_past.specs.Unfolded.{AlwaysTells, HasItsValue, UnfoldedLaw, WrittenLaw}
use Rattle.law_past.proofs.Remembered.{formula_law}
use Rattle.law_past.proofs.Holding.{some_is}
use Rattle.law_past.proofs.Alike.{Alike, last_alike, one_contract}
use Rattle.law_past.proofs.Bare.{same_programs}
use Rattle.law_past.proofs.Programs.{found_again, kept_law}
use Rattle.law_past.proofs.OneBit.{one_bit_law}

-- ---- contracts that have new variables

abbrev IsExtended : Node → Node → Type 0
IsExtended n m = (c : Contract) → n.contract ≡ Some c → (d : Contract) × (m.contract ≡ Some d) × Extends c d

some_extends : (o p : Option Contract) → ExtendsIfAny o p → (c : Contract) → o ≡ Some c → (d : Contract) × (p ≡ Some d) × Extends c d
some_extends None p x c e = absurd cc
some_extends (Some b) None x c e = absurd x
some_extends (Some b) (Some d) x c e = (d, refl, subst (λ (z : Contract). Extends z d) (some_is b c e) x)

all_extended : (xs ys : List Item) → ContractsExtend xs ys → Alike IsExtended xs ys
all_extended [] [] h = tt
all_extended [] (y ∷ ys) h = absurd h
all_extended (TypeItem t ∷ xs) [] h = absurd h
all_extended (TypeItem t ∷ xs) (TypeItem u ∷ ys) h = all_extended xs ys h.1
all_extended (TypeItem t ∷ xs) (NodeItem m ∷ ys) h = absurd h
all_extended (NodeItem n ∷ xs) [] h = absurd h
all_extended (NodeItem n ∷ xs) (TypeItem u ∷ ys) h = absurd h
all_extended (NodeItem n ∷ xs) (NodeItem m ∷ ys) h = ((ap (λ (z : Node). z.name) h.0, λ c e. some_extends n.contract m.contract h.1 c e), all_extended xs ys h.2)

-- ---- the laws

module _ (source : List Item) (text : List ℕ) (tokens : List Token) (program after : List Item) (ranks : List (List ℕ)) (same : bare_program program ≡ bare_program (unfolded source)) (a : IsChecked text tokens program after ranks) (f : List ℕ) where
  -- what a contract of the unfolded program remembers is always told
  always_tells : (c : Contract) → HasContract (unfolded source) f c → (m : Remembered) → Keeps c.body m → AlwaysTells after f (variable_of m) m
  always_tells c h m k d now past r =
      let read = found_again (unfolded source) program (same_programs (unfolded source) program (sym same)) f c h m k in
      let kept = kept_law text tokens program after ranks a f read.0 read.1 m read.2 in
      let one : kept.0 ≡ d = one_contract after f kept.0 d kept.1 r.contract in
      formula_law text tokens program after ranks a f d now past r m (subst (λ (z : Contract). Keeps z.body m) one kept.2)

  -- and is one bit
  one_bit : (c : Contract) → HasContract (unfolded source) f c → (m : Remembered) → Keeps c.body m → IsOneBit after f (variable_of m)
  one_bit c h m k =
      let read = found_again (unfolded source) program (same_programs (unfolded source) program (sym same)) f c h m k in
      one_bit_law text tokens program after ranks a f read.0 read.1 m read.2

  value : (c : Contract) → HasContract (unfolded source) f c → (v : Decl) → (v.last ≡ None) ⊎ ((m : Remembered) × (variable_of m ≡ v.name) × Keeps c.body m) → HasItsValue after f c v
  value c h v (inl e) = inl e
  value c h v (inr m) = inr (m.0, m.1, m.2, subst (λ x. AlwaysTells after f x m.0) m.1 (always_tells c h m.0 m.2), subst (IsOneBit after f) m.1 (one_bit c h m.0 m.2))

  values : (c : Contract) → HasContract (unfolded source) f c → (new : List Decl) → Each (λ (v : Decl). (v.last ≡ None) ⊎ ((m : Remembered) × (variable_of m ≡ v.name) × Keeps c.body m)) new → Each (HasItsValue after f c) new
  values c h [] k = tt
  values c h (v ∷ new) k = (value c h v k.0, values c h new k.1)

pub unfolded_law : UnfoldedLaw
unfolded_law source small text tokens program after ranks same a f c h =
    let like = last_alike IsExtended source (unfolded source) f h.node (all_extended source (unfolded source) (contracts-extend source small)) h.is_node in
    let d = like.like c h.has in
    let has : HasContract (unfolded source) f d.0 = record { node = like.node; is_node = like.is_node; has = d.1 } in
    let more = d.2 in
    record {
      contract = d.0;
      unfolds = has;
      new = more.new;
      locals = more.locals;
      values = values source text tokens program after ranks same a f d.0 has more.new more.remembered;
    }

-- a text has one program
one_program : (ts : List Lexeme) (p q : List Item) → IsProgram ts p → IsProgram ts q → p ≡ q
one_program ts p q h k = only_program ts p q (reads_program ts p h) k

pub written_law : WrittenLaw
written_law text tokens source lexed parsed small short others program after ranks a f c h =
    let back = unfolded-read-back text tokens source lexed parsed small short in
    let one : back.tokens ≡ others = one_list (canonical_text (unfolded source)) back.tokens others back.lexed a.spelled in
    let tree : back.tree ≡ program = one_program (lexemes (canonical_text (unfolded source)) others) back.tree program (subst (λ ts. IsProgram (lexemes (canonical_text (unfolded source)) ts) back.tree) one back.parsed) a.read in
    unfolded_law source small (canonical_text (unfolded source)) others program after ranks (subst (λ p. bare_program p ≡ bare_program (unfolded source)) tree back.same) a f c h
