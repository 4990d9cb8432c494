-- Controllable variables, one after another.
use Rattle.std.proofs.Common.{◌≡◌, ℕ, zero, suc, ◌+◌, ◌<◌, ◌≤◌, List, [], ◌∷◌, ◌++◌, length, drop, get_or, Some, refl, sym, ap, ◌∙◌, subst, arith}
use Rattle.std.specs.Prelude.{IfErr, Result, Ok, Err, slice_get}
use Rattle.std.specs.Result.{IsErrAnd}
use Rattle.std.proofs.lemmas.Result.{IfErr-weaker}
use Rattle.std.proofs.lemmas.List.{append_assoc, append-nil, drop_all}
use Rattle.hp_obc.specs.Machines.{ObcType}
use Rattle.hp_flat.specs.declared.node.Variable.{Variable}
use Rattle.hp_controller.specs.declared.decoding.Control.{Control}
use Rattle.hp_form.specs.declared.error.FormErr.{FormErr}
use Rattle.hp_form.specs.declared.error.FormErr.TheVariants as form
use Rattle.hp_form.specs.declared.error.FormErr.TheVariants.{NoForm}
use Rattle.hp_controlled.specs.declared.error.ControlledErr.{ControlledErr}
use Rattle.hp_controlled.specs.declared.error.ControlledErr.TheVariants.{NotBuilt, OutOfMemory}
use Rattle.hp_controlled.specs.Errors.{IsOfForm}
use Rattle.hp_controlled.specs.Choosing.{AreControls, IsControl}
use Rattle.hp_controlled.specs.Lacking.{SaysNotBuilt}

-- the variable and the width at a place give one more
one_more : (types : List ObcType) (vs : List Variable) (ws : List ℕ) (i : ℕ) (v : Variable) (c : Control) → i < length ws → slice_get vs i ≡ Some v → IsControl types v (get_or ws i 0) c → (more : List Control)
    → AreControls types (drop (suc i) vs) (drop (suc i) ws) more → AreControls types (drop i vs) (drop i ws) (c ∷ more)
one_more types vs [] i v c below there is more are = absurd (omega (arith, below))
one_more types [] (w ∷ ws) i v c below there is more are = absurd cc
one_more types (u ∷ vs) (w ∷ ws) zero v c below there is more are = (subst (λ x. IsControl types x w c) (same v u (sym there)) is, are)
  where
    same : (x y : Variable) → Some x ≡ Some y → x ≡ y
    same x y e = cc
one_more types (u ∷ vs) (w ∷ ws) (suc i) v c below there is more are = one_more types vs ws i v c (omega (arith, below)) there is more are

pub controls-next : (types : List ObcType) (vs : List Variable) (ws : List ℕ) (i : ℕ) (before after : List Control) → ((more : List Control) → AreControls types (drop i vs) (drop i ws) more → AreControls types vs ws (before ++ more)) → i < length ws
    → (v : Variable) × (c : Control) × (slice_get vs i ≡ Some v) × IsControl types v (get_or ws i 0) c × (after ≡ before ++ c ∷ [])
    → (more : List Control) → AreControls types (drop (i + 1) vs) (drop (i + 1) ws) more → AreControls types vs ws (after ++ more)
controls-next types vs ws i before after so_far below added more are =
    let next : i + 1 ≡ suc i = omega arith in
    let behind = subst (λ k. AreControls types (drop k vs) (drop k ws) more) next are in
    subst (λ cs. AreControls types vs ws cs) (sym (append_assoc before (added.1 ∷ []) more) ∙ ap (λ cs. cs ++ more) (sym added.4)) (so_far (added.1 ∷ more) (one_more types vs ws i added.0 added.1 below added.2 added.3 more behind))

pub controls-end : (types : List ObcType) (vs : List Variable) (ws : List ℕ) (i : ℕ) (all : List Control) → ((more : List Control) → AreControls types (drop i vs) (drop i ws) more → AreControls types vs ws (all ++ more)) → length ws ≤ i
    → AreControls types vs ws all
controls-end types vs ws i all so_far past =
    let last : AreControls types (drop i vs) (drop i ws) [] = subst (λ xs. AreControls types (drop i vs) xs []) (sym (drop_all i ws past)) (none (drop i vs)) in
    subst (λ cs. AreControls types vs ws cs) (append-nil all) (so_far [] last)
  where
    none : (us : List Variable) → AreControls types us [] []
    none [] = tt
    none (u ∷ us) = tt

-- where there are controls, there is one at each place
each : (types : List ObcType) (vs : List Variable) (ws : List ℕ) (cs : List Control) (i : ℕ) → AreControls types vs ws cs → i < length ws → (v : Variable) × (c : Control) × (slice_get vs i ≡ Some v) × IsControl types v (get_or ws i 0) c
each types vs [] cs i are below = absurd (omega (arith, below))
each types [] (w ∷ ws) cs i are below = absurd are
each types (v ∷ vs) (w ∷ ws) [] i are below = absurd are
each types (v ∷ vs) (w ∷ ws) (c ∷ cs) zero are below = (v, c, refl, are.0)
each types (v ∷ vs) (w ∷ ws) (c ∷ cs) (suc i) are below = each types vs ws cs i are.1 (omega (arith, below))

pub controls-none : (types : List ObcType) (vs : List Variable) (ws : List ℕ) (i : ℕ) → i < length ws → ((v : Variable) (c : Control) → slice_get vs i ≡ Some v → IsControl types v (get_or ws i 0) c → ⊥) → (cs : List Control) → AreControls types vs ws cs → ⊥
controls-none types vs ws i below none cs are =
    let one = each types vs ws cs i are below in
    none one.0 one.1 one.2 one.3

-- as many controls as widths
pub controls_many : (types : List ObcType) (vs : List Variable) (ws : List ℕ) (cs : List Control) → AreControls types vs ws cs → length cs ≡ length ws
controls_many types vs [] [] are = refl
controls_many types vs [] (c ∷ cs) are = absurd are
controls_many types [] (w ∷ ws) cs are = absurd are
controls_many types (v ∷ vs) (w ∷ ws) [] are = absurd are
controls_many types (v ∷ vs) (w ∷ ws) (c ∷ cs) are = ap (λ k. suc k) (controls_many types vs ws cs are.1)

-- what an error says, said of more
pub says_more : {X : Type 0} (r : Result X ControlledErr) (A B : Type 0) → (A → B) → IfErr r (SaysNotBuilt A) → IfErr r (SaysNotBuilt B)
says_more r A B f said = IfErr-weaker r (SaysNotBuilt A) (SaysNotBuilt B) (λ e says is. f (says is)) said

-- an error on form says so
pub says_of_form : {T : Type 0} (A P : Type 0) (error : FormErr) (r : Result T ControlledErr) → (P → error ≡ form.OutOfMemory) → ((P → ⊥) → A) → IsErrAnd r (IsOfForm error) → IfErr r (SaysNotBuilt A)
says_of_form A P error (Ok v) f g h = absurd h
says_of_form A P NoForm (Err e) f g h = λ says. g (λ p. let no : NoForm ≡ form.OutOfMemory = f p in absurd cc)
says_of_form A P form.OutOfMemory (Err e) f g h = λ says. absurd (let no : NotBuilt ≡ OutOfMemory = sym says ∙ h in cc)
