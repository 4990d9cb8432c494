-- What is moved and added of an observer, one by one.
use Rattle.std.proofs.Common.{◌≡◌, ℕ, ◌+◌, ◌<◌, ◌≤◌, get_or, length, map, drop, List, [], ◌∷◌, ◌++◌, refl, sym, ap, ap₂, ◌∙◌}
use Rattle.std.proofs.lemmas.List.{append_assoc, append-nil, drop_all}
use Rattle.hp_obc.specs.declared.command.ObcOp.TheVariants.{Copy}
use Rattle.hp_flat.specs.declared.equation.Atom.{Atom}
use Rattle.hp_flat.specs.declared.node.Variable.{Variable}
use Rattle.hp_flat.specs.Equations.{Clock, FlatEqn}
use Rattle.hp_flat.specs.Nodes.{FlatNode}
use Rattle.hp_watch.specs.Adding.{with_variable, with_eqn, operator_eqn}
use Rattle.hp_watch.specs.Embedding.{Site, moved_all, moved_clock, moved_eqn, with_variables, with_inputs, with_moved}
use Rattle.hp_watch.proofs.WalkLaws.{drop-next}

pub all-next : (into : List ℕ) (by : ℕ) (xs : List ℕ) (i x : ℕ) → i < length xs → x ≡ get_or xs i x → (into ++ (x + by) ∷ []) ++ moved_all by (drop (i + 1) xs) ≡ into ++ moved_all by (drop i xs)
all-next into by xs i x h p = append_assoc into ((x + by) ∷ []) (moved_all by (drop (i + 1) xs)) ∙ ap (λ rest. into ++ moved_all by rest) (sym (drop-next xs i x h p))

pub all-end : (into : List ℕ) (by : ℕ) (xs : List ℕ) (i : ℕ) → length xs ≤ i → into ++ moved_all by (drop i xs) ≡ into
all-end into by xs i h = ap (λ rest. into ++ moved_all by rest) (drop_all i xs h) ∙ append-nil into

pub clock-next : (into : Clock) (by : ℕ) (xs : Clock) (i : ℕ) (x : ℕ × ℕ) → i < length xs → x ≡ get_or xs i x → (into ++ (x.0 + by, x.1) ∷ []) ++ moved_clock by (drop (i + 1) xs) ≡ into ++ moved_clock by (drop i xs)
clock-next into by xs i x h p = append_assoc into ((x.0 + by, x.1) ∷ []) (moved_clock by (drop (i + 1) xs)) ∙ ap (λ rest. into ++ moved_clock by rest) (sym (drop-next xs i x h p))

pub clock-end : (into : Clock) (by : ℕ) (xs : Clock) (i : ℕ) → length xs ≤ i → into ++ moved_clock by (drop i xs) ≡ into
clock-end into by xs i h = ap (λ rest. into ++ moved_clock by rest) (drop_all i xs h) ∙ append-nil into

pub variables-next : (vs : List Variable) (i : ℕ) (v : Variable) (n : FlatNode) → i < length vs → v ≡ get_or vs i v → with_variables (drop (i + 1) vs) (with_variable v.ty n) ≡ with_variables (drop i vs) n
variables-next vs i v n h p = ap (λ rest. with_variables rest n) (sym (drop-next vs i v h p))

pub variables-end : (vs : List Variable) (i : ℕ) (n : FlatNode) → length vs ≤ i → with_variables (drop i vs) n ≡ n
variables-end vs i n h = ap (λ rest. with_variables rest n) (drop_all i vs h)

pub inputs-next : (clock : Clock) (target : ℕ) (args : List Atom) (i : ℕ) (a : Atom) (n : FlatNode) → i < length args → a ≡ get_or args i a
    → with_inputs clock (target + 1) (drop (i + 1) args) (with_eqn (operator_eqn target clock Copy (a ∷ [])) n) ≡ with_inputs clock target (drop i args) n
inputs-next clock target args i a n h p = ap (λ rest. with_inputs clock target rest n) (sym (drop-next args i a h p))

pub inputs-end : (clock : Clock) (target : ℕ) (args : List Atom) (i : ℕ) (n : FlatNode) → length args ≤ i → with_inputs clock target (drop i args) n ≡ n
inputs-end clock target args i n h = ap (λ rest. with_inputs clock target rest n) (drop_all i args h)

pub moved-next : (site : Site) (by : ℕ) (es : List FlatEqn) (i : ℕ) (e : FlatEqn) (n : FlatNode) → i < length es → e ≡ get_or es i e → with_moved site by (drop (i + 1) es) (with_eqn (moved_eqn site by e) n) ≡ with_moved site by (drop i es) n
moved-next site by es i e n h p = ap (λ rest. with_moved site by rest n) (sym (drop-next es i e h p))

pub moved-end : (site : Site) (by : ℕ) (es : List FlatEqn) (i : ℕ) (n : FlatNode) → length es ≤ i → with_moved site by (drop i es) n ≡ n
moved-end site by es i n h = ap (λ rest. with_moved site by rest n) (drop_all i es h)
