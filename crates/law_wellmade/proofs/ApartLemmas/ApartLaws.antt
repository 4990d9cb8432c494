-- Names that are declared once are apart, and old names are kept.
use Rattle.std.proofs.Common.{◌≡◌, ℕ, ◌≤◌, nat_eq, Bool, true, false, ◌||◌, ◌&&◌, if◌then◌else◌, List, [], ◌∷◌, ◌++◌, ◌+◌, Option, None, Some, option_map, refl, sym, ap, subst, ◌∙◌, arith}
use Rattle.std.specs.List.{AllByRecursion, IsDistinct}
use Rattle.std.specs.Str.{bytes_eq}
use Rattle.std.proofs.lemmas.Bool.Decides.{nat_tests}
use Rattle.std.proofs.lemmas.List.{map-append}
use Rattle.hp_obc.proofs.Positions.{bytes_eq-sym}
use Rattle.hp_base.specs.declared.span.Span.{Span}
use Rattle.hp_tree.specs.Blocks.{Decl, Block, block}
use Rattle.hp_tree.specs.Programs.{Contract, Node}
use Rattle.hp_tree.specs.Meaning.{declares, controls_of, names_of}
use Rattle.hp_meaning.specs.Clocking.Clocking.{AreOnce}
use Rattle.law_judged.specs.Named.Scoped.{also, interface}
use Rattle.hp_automata.specs.NewNames.{is_new}
use Rattle.hp_automata.specs.Renaming.{renamed_decls}
use Rattle.hp_automata.specs.Lowering.{Enumerations, Types, lowered_contract, lowered_body_of, lowered_node, types_of, same_name}
use Rattle.law_automata.specs.Lowered.OldNames.{behind_sign, is_digit, all_digits, some_digits, IsOld}
use Rattle.law_automata.specs.Lowered.Removable.{AllOldDecls}
use Rattle.law_equations.specs.Followed.Premises.{first_byte, letter_of, is_taken}
use Rattle.law_equations.specs.Made.Blocks.{locals_of}
use Rattle.law_equations.specs.Fitting.Fitting.{IsKept, signature_names, NodeNamed}
use Rattle.law_wellmade.specs.Apart.Apart.{ScopedLaw, LoweredLaw}

-- ---- old names are kept

-- the letter of a name, by what stands behind its sign
letter_behind : (x : List ℕ) → letter_of x ≡ first_byte (behind_sign x)
letter_behind [] = refl
letter_behind (b ∷ bs) = by (nat_eq b 36) (letter_behind bs)
  where
    by : (d : Bool) → letter_of bs ≡ first_byte (behind_sign bs) → (if d then first_byte bs else letter_of bs) ≡ first_byte (if d then bs else behind_sign bs)
    by true h = refl
    by false h = h

none_behind : (x : List ℕ) → is_new x ≡ false → behind_sign x ≡ []
none_behind [] h = refl
none_behind (b ∷ bs) h = by (nat_eq b 36) h (λ g. none_behind bs g)
  where
    by : (d : Bool) → (if d then true else is_new bs) ≡ false → (is_new bs ≡ false → behind_sign bs ≡ []) → (if d then bs else behind_sign bs) ≡ []
    by true g rest = absurd cc
    by false g rest = rest g

-- a digit is none of the letters that are made
other_digit : (b c : ℕ) → is_digit b ≡ true → 57 ≤ c → nat_eq b (c + 1) ≡ false
other_digit b c h le = grind (arith, nat_tests)

first_digit : (bs : List ℕ) → some_digits bs ≡ true → is_digit (first_byte bs) ≡ true
first_digit [] h = absurd cc
first_digit (b ∷ bs) h = by (is_digit b) (all_digits bs) h
  where
    by : (d e : Bool) → (d && e) ≡ true → d ≡ true
    by true e g = refl
    by false e g = absurd cc

letter_by : (x : List ℕ) (b : Bool) → is_new x ≡ b → IsOld x → IsKept x
letter_by x true e h =
    let l = letter_behind x in
    let d = first_digit (behind_sign x) (h.digits e) in
    let letter = first_byte (behind_sign x) in
    let v : nat_eq letter 120 ≡ false = other_digit letter 119 d (omega arith) in
    let m : nat_eq letter 109 ≡ false = other_digit letter 108 d (omega arith) in
    let i : nat_eq letter 110 ≡ false = other_digit letter 109 d (omega arith) in
    record { no_variable = ap (λ c. nat_eq c 120) l ∙ v; own = ap is_taken l ∙ (λ j. m j || i j) }
letter_by x false e h =
    let l : letter_of x ≡ 0 = letter_behind x ∙ ap first_byte (none_behind x e) in
    record { no_variable = ap (λ c. nat_eq c 120) l; own = ap is_taken l }

old_kept : (x : List ℕ) → IsOld x → IsKept x
old_kept x h = letter_by x (is_new x) refl h

all_kept : (ds : List Decl) → AllOldDecls ds → AllByRecursion IsKept (names_of ds)
all_kept [] h = tt
all_kept (d ∷ ds) h = (old_kept d.name h.0, all_kept ds h.1)

both_kept : (xs ys : List (List ℕ)) → AllByRecursion IsKept xs → AllByRecursion IsKept ys → AllByRecursion IsKept (xs ++ ys)
both_kept [] ys h g = g
both_kept (x ∷ xs) ys h g = (h.0, both_kept xs ys h.1 g)

-- ---- names that are declared once differ

apart_by : (x : List ℕ) (d : Decl) (b r : Bool) → bytes_eq d.name x ≡ b → (b || r) ≡ false → (bytes_eq x d.name ≡ false) × (r ≡ false)
apart_by x d true r e h = absurd cc
apart_by x d false r e h = (bytes_eq-sym x d.name ∙ e, h)

not_declared : (x : List ℕ) (ds : List Decl) → declares ds x ≡ false → AllByRecursion (λ y. bytes_eq x y ≡ false) (names_of ds)
not_declared x [] h = tt
not_declared x (d ∷ ds) h = let a = apart_by x d (bytes_eq d.name x) (declares ds x) refl h in (a.0, not_declared x ds a.1)

once_differ : (ds : List Decl) → AreOnce ds → IsDistinct bytes_eq (names_of ds)
unfolding IsDistinct
once_differ [] h = tt
once_differ (d ∷ ds) h = (not_declared d.name ds h.0, once_differ ds h.1)

-- ---- a name that is not among those around

is_itself : (b : Bool) → (b ≡ true → ⊥) → b ≡ false
is_itself true h = absurd (h refl)
is_itself false h = refl

or_false : (a b : Bool) → (a || b) ≡ false → (a ≡ false) × (b ≡ false)
or_false true b h = absurd cc
or_false false b h = (refl, h)

others_apart : (x : List ℕ) (ds : List Decl) → declares ds x ≡ false → AllByRecursion (λ y. bytes_eq y x ≡ false) (names_of ds)
others_apart x [] h = tt
others_apart x (d ∷ ds) h = let a = or_false (bytes_eq d.name x) (declares ds x) h in (a.0, others_apart x ds a.1)

both_apart : (x : List ℕ) (xs ys : List (List ℕ)) → AllByRecursion (λ y. bytes_eq y x ≡ false) xs → AllByRecursion (λ y. bytes_eq y x ≡ false) ys → AllByRecursion (λ y. bytes_eq y x ≡ false) (xs ++ ys)
both_apart x [] ys h g = g
both_apart x (z ∷ xs) ys h g = (h.0, both_apart x xs ys h.1 g)

split_names : (ds es : List Decl) → names_of (ds ++ es) ≡ names_of ds ++ names_of es
split_names ds es = map-append (λ (d : Decl). d.name) ds es

pub scoped-law : ScopedLaw
scoped-law n once fresh old =
    let cs = controls_of n.contract in
    record {
      differ = subst (IsDistinct bytes_eq) (split_names (n.inputs ++ cs) n.outputs) (once_differ ((n.inputs ++ cs) ++ n.outputs) once);
      apart = λ x h.
          let seen : also (interface n) cs x ≡ false = is_itself (also (interface n) cs x) (λ t. fresh x h t) in
          let a = or_false (declares cs x) (interface n x) seen in
          let b = or_false (declares n.outputs x) (declares n.inputs x || false) a.1 in
          let c = or_false (declares n.inputs x) false b.1 in
          both_apart x (names_of (n.inputs ++ cs)) (names_of n.outputs)
          (subst (AllByRecursion (λ y. bytes_eq y x ≡ false)) (sym (split_names n.inputs cs)) (both_apart x (names_of n.inputs) (names_of cs) (others_apart x n.inputs c.0) (others_apart x cs a.0)))
          (others_apart x n.outputs b.0);
      signature = both_kept (names_of (n.inputs ++ cs)) (names_of n.outputs)
          (subst (AllByRecursion IsKept) (sym (split_names n.inputs cs)) (both_kept (names_of n.inputs) (names_of cs) (all_kept n.inputs old.inputs) (all_kept cs old.controls))) (all_kept n.outputs old.outputs);
      locals = all_kept (locals_of n.body) old.locals;
    }

-- ---- removing automata keeps the names of a node

controls_same : (enums : Enumerations) (types : Types) (c : Option Contract) → controls_of (option_map (lowered_contract enums types) c) ≡ controls_of c
controls_same enums types None = refl
controls_same enums types (Some c) = refl

renamed_names : (ds : List Decl) → names_of (renamed_decls same_name ds) ≡ names_of ds
renamed_names [] = refl
renamed_names (d ∷ ds) = ap (λ more. d.name ∷ more) (renamed_names ds)

renamed_declares : (ds : List Decl) (x : List ℕ) → declares (renamed_decls same_name ds) x ≡ declares ds x
renamed_declares [] x = refl
renamed_declares (d ∷ ds) x = ap (λ r. bytes_eq d.name x || r) (renamed_declares ds x)

-- what is asked depends on the names of the signature and of the locals alone
renamed_named : (n m : Node) → signature_names m ≡ signature_names n → names_of (locals_of m.body) ≡ names_of (locals_of n.body) → ((x : List ℕ) → declares (locals_of m.body) x ≡ declares (locals_of n.body) x) → NodeNamed n → NodeNamed m
renamed_named n m s l d h = record {
  differ = subst (IsDistinct bytes_eq) (sym s) h.differ;
  apart = λ x g. subst (AllByRecursion (λ y. bytes_eq y x ≡ false)) (sym s) (h.apart x (sym (d x) ∙ g));
  signature = subst (AllByRecursion IsKept) (sym s) h.signature;
  locals = subst (AllByRecursion IsKept) (sym l) h.locals;
}

body_names : (enums : Enumerations) (types : Types) (s : Span) (b : Block) → names_of (locals_of (lowered_body_of enums types s b)) ≡ names_of (locals_of b)
body_names enums types s (block ds es) = renamed_names ds

body_declares : (enums : Enumerations) (types : Types) (s : Span) (b : Block) (x : List ℕ) → declares (locals_of (lowered_body_of enums types s b)) x ≡ declares (locals_of b) x
body_declares enums types s (block ds es) x = renamed_declares ds x

pub lowered-law : LoweredLaw
lowered-law enums n h =
    renamed_named n (lowered_node enums n) (ap (λ cs. names_of (n.inputs ++ cs) ++ names_of n.outputs) (controls_same enums (types_of n) n.contract)) (body_names enums (types_of n) n.span n.body)
    (λ x. body_declares enums (types_of n) n.span n.body x) h
