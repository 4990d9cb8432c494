-- The part of a node, one by one.
use Rattle.std.proofs.Common.{◌≡◌, ℕ, zero, suc, ◌+◌, ◌-◌, ◌<◌, ◌≤◌, ◌⊎◌, inl, inr, get_or, length, map, drop, take, min, Bool, true, false, not, if◌then◌else◌, List, [], ◌∷◌, ◌++◌, slice_get, Option, None, Some, refl, sym, ap, ap₂, subst, ◌∙◌, arith}
use Rattle.std.specs.Prelude.{slice_index_or, slice_set}
use Rattle.std.specs.List.{range_with_len}
use Rattle.std.proofs.lemmas.List.{append_assoc, append-nil, drop_more, drop_all, map-append}
use Rattle.std.proofs.lemmas.Bool.{cases_lt}
use Rattle.hp_flat.specs.declared.equation.Atom.{Atom}
use Rattle.hp_flat.specs.declared.equation.Atom.TheVariants.{Variable as Read, Value as Fixed}
use Rattle.hp_flat.specs.declared.node.Variable.{Variable}
use Rattle.hp_flat.specs.Equations.{Clock, Right, operator, register, called, FlatEqn}
use Rattle.hp_flat.specs.Nodes.{FlatNode}
use Rattle.hp_controlled.specs.Parts.{number_at, renumbered_atom, renumbered_clock, renumbered_right, renumbered_eqn, marked, numbers_from, read_by_atom, read_by_atoms, tested_by, variables_of}
use Rattle.hp_controlled.specs.Reaching.{Reaching, touched, all_touched, with_variable, with_eqn, entered, entered_if, entered_at, all_entered, Definitions, with_definition, with_definitions, with_eqns, chain, definitions_at, followed, without, Ends, at_end, one_more}

pub drop-next : {A : Type 0} (xs : List A) (i : ℕ) (x : A) → i < length xs → x ≡ get_or xs i x → drop i xs ≡ x ∷ drop (i + 1) xs
drop-next xs i x h p = drop_more xs i x h ∙ ap (λ y. y ∷ drop (i + 1) xs) (sym p)

-- ---- meeting

pub touched-both : (xs ys : List ℕ) (r : Reaching) → all_touched (xs ++ ys) r ≡ all_touched ys (all_touched xs r)
touched-both [] ys r = refl
touched-both (x ∷ xs) ys r = touched-both xs ys (touched x r)

pub touched-next : (xs : List ℕ) (i x : ℕ) (r : Reaching) → i < length xs → x ≡ get_or xs i x → all_touched (drop (i + 1) xs) (touched x r) ≡ all_touched (drop i xs) r
touched-next xs i x r h p = ap (λ rest. all_touched rest r) (sym (drop-next xs i x h p))

pub touched-end : (xs : List ℕ) (i : ℕ) (r : Reaching) → length xs ≤ i → all_touched (drop i xs) r ≡ r
touched-end xs i r h = ap (λ rest. all_touched rest r) (drop_all i xs h)

pub atoms-next : (args : List Atom) (i : ℕ) (a : Atom) (r : Reaching) → i < length args → a ≡ get_or args i a → all_touched (read_by_atoms (drop (i + 1) args)) (all_touched (read_by_atom a) r) ≡ all_touched (read_by_atoms (drop i args)) r
atoms-next args i a r h p = sym (touched-both (read_by_atom a) (read_by_atoms (drop (i + 1) args)) r) ∙ ap (λ rest. all_touched (read_by_atoms rest) r) (sym (drop-next args i a h p))

pub atoms-end : (args : List Atom) (i : ℕ) (r : Reaching) → length args ≤ i → all_touched (read_by_atoms (drop i args)) r ≡ r
atoms-end args i r h = ap (λ rest. all_touched (read_by_atoms rest) r) (drop_all i args h)

pub steps-next : (clock : Clock) (i : ℕ) (s : ℕ × ℕ) (r : Reaching) → i < length clock → s ≡ get_or clock i s → all_touched (tested_by (drop (i + 1) clock)) (touched s.0 r) ≡ all_touched (tested_by (drop i clock)) r
steps-next clock i s r h p = ap (λ rest. all_touched (tested_by rest) r) (sym (drop-next clock i s h p))

pub steps-end : (clock : Clock) (i : ℕ) (r : Reaching) → length clock ≤ i → all_touched (tested_by (drop i clock)) r ≡ r
steps-end clock i r h = ap (λ rest. all_touched (tested_by rest) r) (drop_all i clock h)

range-suc : (a n : ℕ) → range_with_len a (suc n) ≡ range_with_len a n ++ (a + n) ∷ []
range-suc a zero = let same : a ≡ a + 0 = omega arith in ap (λ b. b ∷ []) same
range-suc a (suc n) = let same : (a + 1) + n ≡ a + suc n = omega arith in ap (λ xs. a ∷ xs) (range-suc (a + 1) n ∙ ap (λ b. range_with_len (a + 1) n ++ b ∷ []) same)

pub range-next : (x : ℕ) (r : Reaching) → touched x (all_touched (range_with_len 0 x) r) ≡ all_touched (range_with_len 0 (x + 1)) r
range-next x r =
    let one : suc x ≡ x + 1 = omega arith in
    let here : 0 + x ≡ x = omega arith in
    ap (λ y. touched y (all_touched (range_with_len 0 x) r)) (sym here)
    ∙ sym (touched-both (range_with_len 0 x) ((0 + x) ∷ []) r)
    ∙ ap (λ xs. all_touched xs r) (sym (range-suc 0 x))
    ∙ ap (λ c. all_touched (range_with_len 0 c) r) one

-- ---- definitions

pub definitions-next : (xs : List ℕ) (i x k : ℕ) (d : Definitions) → i < length xs → x ≡ get_or xs i x → with_definitions (drop (i + 1) xs) k (with_definition x k d) ≡ with_definitions (drop i xs) k d
definitions-next xs i x k d h p = ap (λ rest. with_definitions rest k d) (sym (drop-next xs i x h p))

pub definitions-end : (xs : List ℕ) (i k : ℕ) (d : Definitions) → length xs ≤ i → with_definitions (drop i xs) k d ≡ d
definitions-end xs i k d h = ap (λ rest. with_definitions rest k d) (drop_all i xs h)

pub eqns-next : (es : List FlatEqn) (i : ℕ) (e : FlatEqn) (d : Definitions) → i < length es → e ≡ get_or es i e → with_eqns (i + 1) (drop (i + 1) es) (with_definitions e.targets i d) ≡ with_eqns i (drop i es) d
eqns-next es i e d h p = ap (λ rest. with_eqns i rest d) (sym (drop-next es i e h p))

pub eqns-end : (es : List FlatEqn) (i : ℕ) (d : Definitions) → length es ≤ i → with_eqns i (drop i es) d ≡ d
eqns-end es i d h = ap (λ rest. with_eqns i rest d) (drop_all i es h)

-- ---- following

opened : (most : ℕ) (all : List (ℕ × ℕ)) (i : ℕ) (d : ℕ × ℕ) → slice_get all i ≡ Some d → chain (suc most) all (suc i) ≡ d.0 ∷ chain most all d.1
opened most all i d e = ap (λ (o : Option (ℕ × ℕ)). elim o [ None ↦ [] | Some x ↦ x.0 ∷ chain most all x.1 ]) e

pub chain-next : (n : FlatNode) (all : List (ℕ × ℕ)) (more most at : ℕ) (d : ℕ × ℕ) (r : Reaching) → 0 < at → more ≡ suc most → slice_get all (at - 1) ≡ Some d
    → all_entered n (chain most all d.1) (entered_at n d.0 r) ≡ all_entered n (chain more all at) r
chain-next n all more most at d r h is e =
    let one : suc (at - 1) ≡ at = omega arith in
    ap (λ ks. all_entered n ks r) (sym (opened most all (at - 1) d e) ∙ ap (λ x. chain (suc most) all x) one ∙ ap (λ m. chain m all at) (sym is))

pub chain-none : (n : FlatNode) (all : List (ℕ × ℕ)) (more at : ℕ) (r : Reaching) → 0 < at → slice_get all (at - 1) ≡ None → all_entered n (chain more all at) r ≡ r
chain-none n all zero at r h e = refl
chain-none n all (suc most) at r h e =
    let one : suc (at - 1) ≡ at = omega arith in
    let none : chain (suc most) all (suc (at - 1)) ≡ [] = ap (λ (o : Option (ℕ × ℕ)). elim o [ None ↦ [] | Some x ↦ x.0 ∷ chain most all x.1 ]) e in
    ap (λ ks. all_entered n ks r) (ap (λ x. chain (suc most) all x) (sym one) ∙ none)

pub chain-first : (n : FlatNode) (all : List (ℕ × ℕ)) (more at : ℕ) (r : Reaching) → at ≡ 0 → all_entered n (chain more all at) r ≡ r
chain-first n all zero at r e = refl
chain-first n all (suc most) at r e = ap (λ x. all_entered n (chain (suc most) all x) r) e

pub chain-end : (n : FlatNode) (all : List (ℕ × ℕ)) (more at : ℕ) (r : Reaching) → more ≡ 0 → all_entered n (chain more all at) r ≡ r
chain-end n all more at r e = ap (λ m. all_entered n (chain m all at) r) e

-- ---- room: what is not marked, and what waits

-- how many marks are not set
abbrev pub unmarked : List Bool → ℕ
unmarked [] = 0
unmarked (true ∷ vs) = unmarked vs
unmarked (false ∷ vs) = unmarked vs + 1

abbrev pub room : Reaching → ℕ
room r = unmarked r.variables + length r.waiting

unmark : (vs : List Bool) (x : ℕ) → slice_index_or vs x true ≡ false → unmarked (slice_set vs x true) + 1 ≡ unmarked vs
unmark [] x h = absurd cc
unmark (true ∷ vs) zero h = absurd cc
unmark (false ∷ vs) zero h = refl
unmark (true ∷ vs) (suc x) h = unmark vs x h
unmark (false ∷ vs) (suc x) h = let rest = unmark vs x h in omega (arith, rest)

length_more : (xs : List ℕ) (x : ℕ) → length (xs ++ x ∷ []) ≡ length xs + 1
length_more [] x = refl
length_more (y ∷ xs) x = let rest = length_more xs x in omega (arith, rest)

room_by : (b : Bool) (x : ℕ) (r : Reaching) → slice_index_or r.variables x true ≡ b → room (if b then r else with_variable x r) ≡ room r
room_by true x r e = refl
room_by false x r e = let first = unmark r.variables x e in let second = length_more r.waiting x in omega (arith, first, second)

room-touched : (x : ℕ) (r : Reaching) → room (touched x r) ≡ room r
unfolding touched
room-touched x r = room_by (slice_index_or r.variables x true) x r refl

room-all : (xs : List ℕ) (r : Reaching) → room (all_touched xs r) ≡ room r
room-all [] r = refl
room-all (x ∷ xs) r = room-all xs (touched x r) ∙ room-touched x r

room_enter : (b : Bool) (k : ℕ) (e : FlatEqn) (r : Reaching) → room (if b then r else all_touched (variables_of e) (with_eqn k r)) ≡ room r
room_enter true k e r = refl
room_enter false k e r = room-all (variables_of e) (with_eqn k r)

room-entered : (k : ℕ) (e : FlatEqn) (r : Reaching) → room (entered k e r) ≡ room r
unfolding entered
room-entered k e r = room_enter (slice_index_or r.eqns k true) k e r

room-if : (k : ℕ) (o : Option FlatEqn) (r : Reaching) → room (entered_if k o r) ≡ room r
room-if k None r = refl
room-if k (Some e) r = room-entered k e r

room-entered_all : (n : FlatNode) (ks : List ℕ) (r : Reaching) → room (all_entered n ks r) ≡ room r
room-entered_all n [] r = refl
room-entered_all n (k ∷ ks) r = room-entered_all n ks (entered_at n k r) ∙ room-if k (slice_get n.eqns k) r

pub room-followed : (n : FlatNode) (d : Definitions) (x : ℕ) (r : Reaching) → room (followed n d x r) ≡ room r
room-followed n d x r = room-entered_all n (definitions_at d x) r

pub room-less : (r : Reaching) (waiting : List ℕ) (x : ℕ) → r.waiting ≡ waiting ++ x ∷ [] → room (without r waiting) < room r
room-less r waiting x e = let long = ap length e ∙ length_more waiting x in omega (arith, long)

-- ---- marks

pub marked-next : {A : Type 0} (into : List A) (ms : List Bool) (xs : List A) (i : ℕ) (m : Bool) (x : A) → i < length ms → m ≡ get_or ms i m → i < length xs → x ≡ get_or xs i x
    → (if m then into ++ x ∷ [] else into) ++ marked (drop (i + 1) ms) (drop (i + 1) xs) ≡ into ++ marked (drop i ms) (drop i xs)
marked-next into ms xs i m x h p k q =
    by m ∙ ap₂ (λ a b. into ++ marked a b) (sym (drop-next ms i m h p)) (sym (drop-next xs i x k q))
  where
    by : (b : Bool) → (if b then into ++ x ∷ [] else into) ++ marked (drop (i + 1) ms) (drop (i + 1) xs) ≡ into ++ marked (b ∷ drop (i + 1) ms) (x ∷ drop (i + 1) xs)
    by true = append_assoc into (x ∷ []) (marked (drop (i + 1) ms) (drop (i + 1) xs))
    by false = refl

pub marked_eqns-next : (to : ℕ → ℕ) (into : List FlatEqn) (ms : List Bool) (es : List FlatEqn) (i : ℕ) (m : Bool) (e : FlatEqn) → i < length ms → m ≡ get_or ms i m → i < length es → e ≡ get_or es i e
    → (if m then into ++ renumbered_eqn to e ∷ [] else into) ++ map (renumbered_eqn to) (marked (drop (i + 1) ms) (drop (i + 1) es)) ≡ into ++ map (renumbered_eqn to) (marked (drop i ms) (drop i es))
marked_eqns-next to into ms es i m e h p k q =
    by m ∙ ap₂ (λ a b. into ++ map (renumbered_eqn to) (marked a b)) (sym (drop-next ms i m h p)) (sym (drop-next es i e k q))
  where
    by : (b : Bool) → (if b then into ++ renumbered_eqn to e ∷ [] else into) ++ map (renumbered_eqn to) (marked (drop (i + 1) ms) (drop (i + 1) es)) ≡ into ++ map (renumbered_eqn to) (marked (b ∷ drop (i + 1) ms) (e ∷ drop (i + 1) es))
    by true = append_assoc into (renumbered_eqn to e ∷ []) (map (renumbered_eqn to) (marked (drop (i + 1) ms) (drop (i + 1) es)))
    by false = refl

none_marked : {A : Type 0} (ms : List Bool) (xs : List A) → (length ms ≡ 0) ⊎ (length xs ≡ 0) → marked ms xs ≡ []
none_marked [] xs h = refl
none_marked (m ∷ ms) [] h = refl
none_marked (m ∷ ms) (x ∷ xs) (inl h) = absurd (omega (arith, h))
none_marked (m ∷ ms) (x ∷ xs) (inr h) = absurd (omega (arith, h))

pub marked-end : {A : Type 0} (into : List A) (ms : List Bool) (xs : List A) (i : ℕ) → min (length xs) (length ms) ≤ i → into ++ marked (drop i ms) (drop i xs) ≡ into
marked-end into ms xs i h = ap (λ rest. into ++ rest) (none_marked (drop i ms) (drop i xs) (by (cases_lt i (length xs)))) ∙ append-nil into
  where
    by : (i < length xs) ⊎ (length xs ≤ i) → (length (drop i ms) ≡ 0) ⊎ (length (drop i xs) ≡ 0)
    by (inr l) = inr (ap length (drop_all i xs l))
    by (inl l) = inl (ap length (drop_all i ms (omega (arith, h, l))))

pub marked_eqns-end : (to : ℕ → ℕ) (into : List FlatEqn) (ms : List Bool) (es : List FlatEqn) (i : ℕ) → min (length es) (length ms) ≤ i → into ++ map (renumbered_eqn to) (marked (drop i ms) (drop i es)) ≡ into
marked_eqns-end to into ms es i h = ap (λ rest. into ++ map (renumbered_eqn to) rest) (marked-end [] ms es i h) ∙ append-nil into

pub numbers-next : (into : List ℕ) (ms : List Bool) (i k : ℕ) (m : Bool) → i < length ms → m ≡ get_or ms i m → (into ++ k ∷ []) ++ numbers_from (if m then k + 1 else k) (drop (i + 1) ms) ≡ into ++ numbers_from k (drop i ms)
numbers-next into ms i k m h p = append_assoc into (k ∷ []) (numbers_from (if m then k + 1 else k) (drop (i + 1) ms)) ∙ ap (λ rest. into ++ numbers_from k rest) (sym (drop-next ms i m h p))

pub numbers-end : (into : List ℕ) (ms : List Bool) (i k : ℕ) → length ms ≤ i → into ++ numbers_from k (drop i ms) ≡ into
numbers-end into ms i k h = ap (λ rest. into ++ numbers_from k rest) (drop_all i ms h) ∙ append-nil into

-- ---- the same numbers

same_atoms : (args : List Atom) → map (renumbered_atom (number_at [])) args ≡ args
same_atoms [] = refl
same_atoms (Read x ∷ args) = ap (λ rest. Read x ∷ rest) (same_atoms args)
same_atoms (Fixed v ∷ args) = ap (λ rest. Fixed v ∷ rest) (same_atoms args)

same_atom : (a : Atom) → renumbered_atom (number_at []) a ≡ a
same_atom (Read x) = refl
same_atom (Fixed v) = refl

same_numbers : (xs : List ℕ) → map (number_at []) xs ≡ xs
same_numbers [] = refl
same_numbers (x ∷ xs) = ap (λ rest. x ∷ rest) (same_numbers xs)

same_clock : (clock : Clock) → renumbered_clock (number_at []) clock ≡ clock
same_clock [] = refl
same_clock (s ∷ clock) = ap (λ rest. s ∷ rest) (same_clock clock)

same_right : (r : Right) → renumbered_right (number_at []) r ≡ r
same_right (operator op args) = ap (operator op) (same_atoms args)
same_right (register first next) = ap (register first) (same_atom next)
same_right (called f args) = ap (called f) (same_atoms args)

pub same-eqn : (e : FlatEqn) → renumbered_eqn (number_at []) e ≡ e
same-eqn e = λ j. record { targets = same_numbers e.targets j; clock = same_clock e.clock j; right = same_right e.right j; restart = same_numbers e.restart j; at = e.at }

pub same-under : (numbers : List ℕ) (e copy : FlatEqn) → numbers ≡ [] → copy ≡ renumbered_eqn (number_at numbers) e → copy ≡ e
same-under numbers e copy none is = is ∙ ap (λ xs. renumbered_eqn (number_at xs) e) none ∙ same-eqn e

-- ---- following all

pub one-followed : (n : FlatNode) (d : Definitions) (start r last : Reaching) (waiting : List ℕ) (x : ℕ) → ((other : Reaching) → Ends n d r other → Ends n d start other) → r.waiting ≡ waiting ++ x ∷ [] → last ≡ followed n d x (without r waiting)
    → (other : Reaching) → Ends n d last other → Ends n d start other
one-followed n d start r last waiting x known is next other ends = known other (one_more waiting x is (subst (λ z. Ends n d z other) next ends))

pub none-left : (n : FlatNode) (d : Definitions) (start r : Reaching) → ((other : Reaching) → Ends n d r other → Ends n d start other) → r.waiting ≡ [] → Ends n d start r
none-left n d start r known none = known r (at_end none)

pub room-next : (n : FlatNode) (d : Definitions) (r last : Reaching) (waiting : List ℕ) (x : ℕ) → r.waiting ≡ waiting ++ x ∷ [] → last ≡ followed n d x (without r waiting) → room last < room r
room-next n d r last waiting x is next =
    let first : room last ≡ room (without r waiting) = ap room next ∙ room-followed n d x (without r waiting) in
    let second = room-less r waiting x is in
    omega (arith, first, second)
