-- The contracts of the program of a text can be observed: their names are none of those that an observer has beside them, and their integers are short.
use Rattle.std.proofs.Common.{◌≡◌, ⊎_elim, ℕ, zero, suc, ◌<◌, Bool, true, false, nat_eq, if◌then◌else◌, ◌||◌, List, [], ◌∷◌, ◌++◌, length, take, map, refl, sym, ap, ap₂, subst, ◌∙◌, arith}
use Rattle.std.specs.Prelude.{IsTrue, codes, decimal, min, Option, None, Some}
use Rattle.std.specs.Str.{bytes_eq}
use Rattle.std.proofs.lemmas.List.{length-map}
use Rattle.hp_lexer.specs.Written.{IsWritable}
use Rattle.hp_lexer.specs.declared.token.Keyword.TheVariants as key
use Rattle.hp_print.specs.Tokens.{small}
use Rattle.hp_print.proofs.Readable.{Each, GoodItem}
use Rattle.hp_tree.specs.Blocks.{Decl, Block, block, Eqns, no_eqn, more_eqns, Eqn, define, switch, reset, automaton, Arms, no_arm, more_arms, States, no_state, more_states}
use Rattle.hp_tree.specs.declared.program.Item.{Item}
use Rattle.hp_tree.specs.declared.program.Item.TheVariants.{TypeItem, NodeItem}
use Rattle.hp_tree.specs.Meaning.{declares}
use Rattle.hp_tree.specs.Programs.{Contract, Node}
use Rattle.hp_clocks.specs.Answers.{IsClocked}
use Rattle.hp_clocks.specs.Writing.{AreWritten}
use Rattle.hp_expand.specs.NewNames.{is_new, stem, marked, numbered_name}
use Rattle.hp_expand.specs.Numbering.{no_node, with_node, replaced_node, replaced_items, replaced}
use Rattle.hp_meaning.specs.Clocking.Clocking.{base_written}
use Rattle.law_judged.specs.Named.Scoped.{EachNode, also, no_names, interface}
use Rattle.law_judged.specs.Replaced.Fitting.{DeclNames, BlockNames, EqnsNames, EqnNames, ArmsNames, StatesNames, ContractNames}
use Rattle.law_judged.proofs.NamedLemmas.Sets.{or_cases}
use Rattle.law_judged.proofs.PlainLemmas.Spelled.{found_of}
use Rattle.law_automata.proofs.LoweredLemmas.Apart.{same_bytes}
use Rattle.law_automata.proofs.LowerableLemmas.Texts.{clocked_of}
use Rattle.law_wellmade.specs.Lettered.Names.{DeclsSpelled, BlockSpelled, EqnsSpelled, EqnSpelled, ArmsSpelled, StatesSpelled, ContractSpelled, NodeSpelled}
use Rattle.law_wellmade.specs.Spelled.Integers.{ContractShort}
use Rattle.law_wellmade.proofs.LetteredLemmas.ClockedNames.{program_clocked}
use Rattle.law_wellmade.proofs.LetteredLemmas.ReplacedNames.{Renames, program_spelled}
use Rattle.law_wellmade.proofs.LetteredLemmas.TextNames as words
use Rattle.law_wellmade.proofs.LetteredLemmas.TextNames.{small_plain}
use Rattle.law_wellmade.proofs.RegularLemmas.Clocked.{contracts_clocked}
use Rattle.law_wellmade.proofs.SpelledLemmas.Joined.{replaced_contracts}
use Rattle.law_wellmade.proofs.SpelledLemmas.Letters.{differ}
use Rattle.hp_watch.specs.Observing as observing
use Rattle.hp_watch.specs.Observing.{input_name}
use Rattle.law_choices.specs.Observed.Contracts.{IsOther, IsObservable}
use Rattle.law_choices.specs.Observed.Texts.{ObservableTextsLaw}

-- ---- what stands before the sign of a name

-- It is none of three words of the grammar, before which an observer's other names have the sign.
record IsNoWord (x : List ℕ) : Type 0 where
  assumes : stem x ≡ codes "assume" → ⊥
  enforces : stem x ≡ codes "enforce" → ⊥
  inside : stem x ≡ codes "in" → ⊥

stem_whole : (x : List ℕ) → is_new x ≡ false → stem x ≡ x
stem_whole [] h = refl
stem_whole (b ∷ bs) h = by (nat_eq b 36) h (stem_whole bs)
  where
    by : (t : Bool) → (if t then true else is_new bs) ≡ false → (is_new bs ≡ false → stem bs ≡ bs) → (if t then [] else b ∷ stem bs) ≡ b ∷ bs
    by true e r = absurd (cc e)
    by false e r = ap (λ z. b ∷ z) (r e)

stem_twice : (x : List ℕ) → stem (stem x) ≡ stem x
stem_twice [] = refl
stem_twice (b ∷ bs) = by (nat_eq b 36) refl (stem_twice bs)
  where
    by : (t : Bool) → nat_eq b 36 ≡ t → stem (stem bs) ≡ stem bs → stem (if t then [] else b ∷ stem bs) ≡ (if t then [] else b ∷ stem bs)
    by true e r = refl
    by false e r = ap (λ t. if t then [] else b ∷ stem (stem bs)) e ∙ ap (λ z. b ∷ z) r

-- a name that is cut, with the sign behind it, has no other short stem
stem_cut : (n : ℕ) (y r w : List ℕ) → length w < n → stem (take n y ++ 36 ∷ r) ≡ w → stem y ≡ w
stem_cut zero y r w l e = absurd (omega (arith, l))
stem_cut (suc n) [] r w l e = e
stem_cut (suc n) (b ∷ bs) r w l e = by (nat_eq b 36) w l e (stem_cut n bs r)
  where
    by : (t : Bool) (v : List ℕ) → length v < suc n → (if t then [] else b ∷ stem (take n bs ++ 36 ∷ r)) ≡ v → ((u : List ℕ) → length u < n → stem (take n bs ++ 36 ∷ r) ≡ u → stem bs ≡ u) → (if t then [] else b ∷ stem bs) ≡ v
    by true v l e f = e
    by false [] l e f = absurd (cc e)
    by false (c ∷ v) l e f =
        let first : b ≡ c = cc e in
        let rest : stem (take n bs ++ 36 ∷ r) ≡ v = cc e in
        ap₂ (λ (x : ℕ) (z : List ℕ). x ∷ z) first (f v (omega (arith, l)) rest)

marks_no_word : (k : ℕ) (x : List ℕ) → IsNoWord x → IsNoWord (marked k x)
marks_no_word k x h =
    let d = decimal (min 999999 k) in
    record {
      assumes = λ e. h.assumes (stem_cut 262 x d (codes "assume") (omega arith) e);
      enforces = λ e. h.enforces (stem_cut 262 x d (codes "enforce") (omega arith) e);
      inside = λ e. h.inside (stem_cut 262 x d (codes "in") (omega arith) e);
    }

numbers_no_word : (k : ℕ) (x : List ℕ) → IsNoWord x → IsNoWord (numbered_name x k)
numbers_no_word k x h =
    let d = decimal (min 999999 k) in
    record {
      assumes = λ e. h.assumes (sym (stem_twice x) ∙ stem_cut 255 (stem x) d (codes "assume") (omega arith) e);
      enforces = λ e. h.enforces (sym (stem_twice x) ∙ stem_cut 255 (stem x) d (codes "enforce") (omega arith) e);
      inside = λ e. h.inside (sym (stem_twice x) ∙ stem_cut 255 (stem x) d (codes "in") (omega arith) e);
    }

renames : Renames IsNoWord
renames = record { marks = marks_no_word; numbers = numbers_no_word }

-- a name of a text is no word of the grammar
source : (x : List ℕ) → IsWritable (small x) → IsNoWord x
source x w =
    let same = stem_whole x (small_plain x w.spelled.0) in
    record {
      assumes = λ e. w.spelled.1 key.Assume (sym same ∙ e);
      enforces = λ e. w.spelled.1 key.Enforce (sym same ∙ e);
      inside = λ e. w.spelled.1 key.In (sym same ∙ e);
    }

other : (x : List ℕ) → IsNoWord x → IsOther x
other x h = record {
  assumed = differ observing.assumed x (λ e. h.assumes (ap stem (sym e)));
  enforced = differ observing.enforced x (λ e. h.enforces (ap stem (sym e)));
  input = λ i. differ (input_name i) x (λ e. h.inside (ap stem (sym e)));
}

-- ---- declared names

declared : (ds : List Decl) → DeclsSpelled IsNoWord ds → DeclNames IsOther ds
declared [] h x k = absurd cc
declared (d ∷ ds) h x k = ⊎_elim (λ e. subst IsOther (same_bytes d.name x e) (other d.name h.0)) (λ l. declared ds h.1 x l) (or_cases (bytes_eq d.name x) (declares ds x) k)

mutual
  in_block : (b : Block) → BlockSpelled IsNoWord b → BlockNames IsOther b
  in_block (block ds es) h = (declared ds h.0, in_eqns es h.1)

  in_eqns : (es : Eqns) → EqnsSpelled IsNoWord es → EqnsNames IsOther es
  in_eqns no_eqn h = tt
  in_eqns (more_eqns e es) h = (in_eqn e h.0, in_eqns es h.1)

  in_eqn : (e : Eqn) → EqnSpelled IsNoWord e → EqnNames IsOther e
  in_eqn (define s ys e) h = tt
  in_eqn (switch s e arms) h = in_arms arms h
  in_eqn (reset s b e) h = in_block b h
  in_eqn (automaton s ss) h = in_states ss h

  in_arms : (arms : Arms) → ArmsSpelled IsNoWord arms → ArmsNames IsOther arms
  in_arms no_arm h = tt
  in_arms (more_arms c b s arms) h = (in_block b h.0, in_arms arms h.1)

  in_states : (ss : States) → StatesSpelled IsNoWord ss → StatesNames IsOther ss
  in_states no_state h = tt
  in_states (more_states f b until unless s ss) h = (in_block b h.0, in_states ss h.1)

in_contract : (o : Option Contract) → ContractSpelled IsNoWord o → ContractNames IsOther o
in_contract None h = tt
in_contract (Some c) h = in_block c.body h.1

-- ---- how many outputs there are

abbrev HasFew : Node → Type 0
HasFew n = length n.outputs < 1000000

few_good : (items : List Item) → Each (GoodItem 200 64 (Some 64) (Some 64) (Some 63)) items → EachNode HasFew items
few_good [] g = tt
few_good (TypeItem t ∷ items) g = few_good items g.1
few_good (NodeItem n ∷ items) g = let l = g.0.1.1 in (omega (arith, l), few_good items g.1)

few_replaced : (nodes : List ℕ → Node) (items : List Item) → EachNode HasFew items → EachNode HasFew (replaced_items nodes items)
few_replaced nodes [] h = tt
few_replaced nodes (TypeItem t ∷ items) h = few_replaced nodes items h
few_replaced nodes (NodeItem n ∷ items) h = (h.0, few_replaced (with_node nodes (replaced_node nodes n)) items h.1)

few_written : (xs ys : List Item) → AreWritten IsClocked xs ys → EachNode HasFew xs → EachNode HasFew ys
few_written [] [] w h = tt
few_written [] (y ∷ ys) w h = absurd w
few_written (TypeItem t ∷ xs) [] w h = absurd w
few_written (NodeItem n ∷ xs) [] w h = absurd w
few_written (TypeItem t ∷ xs) (y ∷ ys) w h = subst (λ z. EachNode HasFew (z ∷ ys)) (sym w.0) (few_written xs ys w.1 h)
few_written (NodeItem n ∷ xs) (y ∷ ys) w h =
    let it = w.0 in
    subst (λ z. EachNode HasFew (z ∷ ys)) (sym it.2) (subst (λ k. k < 1000000) (sym (length-map n.outputs base_written)) h.0, few_written xs ys w.1 h.1)

-- ---- the law

all_observable : (items : List Item) → EachNode (NodeSpelled IsNoWord) items → EachNode (λ (n : Node). ContractShort n.contract) items → EachNode HasFew items → EachNode IsObservable items
all_observable [] h s f = tt
all_observable (TypeItem t ∷ items) h s f = all_observable items h s f
all_observable (NodeItem n ∷ items) h s f = (
  record {
    interface = λ x k.
        ⊎_elim (λ l. declared n.outputs h.0.1.1.0 x l) (λ l. ⊎_elim (λ m. declared n.inputs h.0.1.0 x m) (λ m. absurd cc) (or_cases (declares n.inputs x) (no_names x) l)) (or_cases (declares n.outputs x) (also no_names n.inputs x) k);
    contract = in_contract n.contract h.0.1.1.1.0;
    short = s.0;
    few = f.0;
  },
  all_observable items h.1 s.1 f.1,
)

pub observable_texts_law : ObservableTextsLaw
observable_texts_law text tokens program after a p clocks =
    let found = found_of text tokens program a.read p in
    all_observable after
    (program_clocked IsNoWord IsClocked (replaced program) after clocks (program_spelled IsNoWord renames program (words.program_spelled IsNoWord source program found.1)))
    (contracts_clocked (replaced program) after (clocked_of (replaced program) after clocks) (replaced_contracts text tokens program a p))
    (few_written (replaced program) after clocks (few_replaced no_node program (few_good program found.0.0)))
