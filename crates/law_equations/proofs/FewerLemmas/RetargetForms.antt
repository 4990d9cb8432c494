-- What is asked of nodes is kept where equations define other variables.
use Rattle.std.proofs.Common.{◌≡◌, ◌≤◌, ◌<◌, ℕ, nat_eq, Bool, true, false, not, if◌then◌else◌, map, List, [], ◌∷◌, length, Option, Some, None, refl, ap, subst, ◌∙◌}
use Rattle.std.specs.List.{AllByRecursion}
use Rattle.std.proofs.lemmas.Bool.{eqb-true}
use Rattle.hp_obc.specs.Machines.{ObcType}
use Rattle.hp_flat.specs.declared.equation.Atom.{Atom}
use Rattle.hp_flat.specs.declared.equation.Atom.TheVariants.{Variable as Named, Value as Fixed}
use Rattle.hp_flat.specs.declared.node.FlatTy.{FlatTy}
use Rattle.hp_flat.specs.Equations.{Clock, Right, FlatEqn}
use Rattle.hp_flat.specs.Nodes.{FlatNode}
use Rattle.law_equations.specs.Meaning.Scheduling.{AreBelow, EqnWithin, IsWithin, DefinesNoInput}
use Rattle.hp_normal.specs.Reading.{only, copied, both, copy_of}
use Rattle.hp_normal.specs.Retargeting.{moved, after_move, ends, is_moved, with_targets, retargeted}
use Rattle.hp_normal.proofs.CopyLaws.{moved-copy}
use Rattle.hp_toobc.specs.Tables.{variable_type}
use Rattle.law_equations.specs.Followed.Premises.{EqnForm}
use Rattle.law_equations.specs.Followed.Programs.{CallsAmong, CallsOnly}
use Rattle.law_equations.specs.Fewer.Compiling.{CopyAgrees, CopiesAgree}
use Rattle.law_equations.proofs.FewerLemmas.Members.{each_among, each_map, all_kept}
use Rattle.law_equations.proofs.FewerLemmas.RetargetLaws.{ends-keep}

module _ (n : FlatNode) where
  abbrev r : ℕ → ℕ
  r = ends n n.eqns

  mapped_each : (P : ℕ → Type 0) → AllByRecursion (λ (e : FlatEqn). AllByRecursion P e.targets) n.eqns → (xs : List ℕ) → AllByRecursion P xs → AllByRecursion P (map r xs)
  mapped_each P all [] h = tt
  mapped_each P all (x ∷ xs) h = (ends-keep n P n.eqns all x h.0, mapped_each P all xs h.1)

  abbrev keep_targets : FlatEqn → Bool
  keep_targets e = not (is_moved r e)

  pub retargeted-within : IsWithin n → IsWithin (retargeted n)
  retargeted-within h =
      let all : AllByRecursion (λ (e : FlatEqn). AreBelow (length n.variables) e.targets) n.eqns = each_map (EqnWithin (length n.variables)) (λ (e : FlatEqn). AreBelow (length n.variables) e.targets) (λ e q. q.targets) n.eqns h.eqns in
      record {
        inputs = h.inputs;
        outputs = h.outputs;
        eqns =
            all_kept (with_targets r) keep_targets (EqnWithin (length n.variables)) n.eqns
            (λ e a k.
            let q : EqnWithin (length n.variables) e = each_among (EqnWithin (length n.variables)) n.eqns e h.eqns a in
            record { targets = mapped_each (λ x. x < length n.variables) all e.targets q.targets; clock = q.clock; operands = q.operands; restart = q.restart });
      }

  pub retargeted-no_inputs : DefinesNoInput n → DefinesNoInput (retargeted n)
  retargeted-no_inputs h =
      all_kept (with_targets r) keep_targets (λ (e : FlatEqn). AllByRecursion (λ x. n.inputs ≤ x) e.targets) n.eqns
      (λ e a k. mapped_each (λ x. n.inputs ≤ x) h e.targets (each_among (λ (d : FlatEqn). AllByRecursion (λ x. n.inputs ≤ x) d.targets) n.eqns e h a))

  -- what is asked of clocks and right sides
  pub retargeted-each : (Q : Clock → Right → Type 0) → AllByRecursion (λ (e : FlatEqn). Q e.clock e.right) n.eqns → AllByRecursion (λ (e : FlatEqn). Q e.clock e.right) (retargeted n).eqns
  retargeted-each Q h = all_kept (with_targets r) keep_targets (λ (e : FlatEqn). Q e.clock e.right) n.eqns (λ e a k. each_among (λ (d : FlatEqn). Q d.clock d.right) n.eqns e h a)

  abbrev pub its_type : ℕ → FlatTy
  its_type x = variable_type n.variables x

  pub ends-type : (es : List FlatEqn) → CopiesAgree n.variables es → (z : ℕ) → its_type (ends n es z) ≡ its_type z
  ends-type [] h z = refl
  ends-type (e ∷ es) h z = type_by (moved n e) refl (ends-type es h.1)
    where
      pick : (d : Bool) (x y : ℕ) → nat_eq y z ≡ d → its_type x ≡ its_type y → ((v : ℕ) → its_type (ends n es v) ≡ its_type v) → its_type (if d then ends n es x else ends n es z) ≡ its_type z
      pick true x y q same later = later x ∙ same ∙ ap its_type (eqb-true y z q)
      pick false x y q same later = later z

      type_by : (m : Option (ℕ × ℕ)) → moved n e ≡ m → ((v : ℕ) → its_type (ends n es v) ≡ its_type v) → its_type (after_move m (ends n es) z) ≡ its_type z
      type_by None q later = later z
      type_by (Some (x, y)) q later = pick (nat_eq y z) x y refl (subst (CopyAgrees n.variables) (moved-copy n e x y q) h.0) later

  agree_by : CopiesAgree n.variables n.eqns → (ts : List ℕ) (c : Option Atom) → CopyAgrees n.variables (both (only ts) c) → CopyAgrees n.variables (both (only (map r ts)) c)
  agree_by all [] c h = tt
  agree_by all (x ∷ []) None h = tt
  agree_by all (x ∷ []) (Some (Named y)) h = ends-type n.eqns all x ∙ h
  agree_by all (x ∷ []) (Some (Fixed v)) h = tt
  agree_by all (x ∷ y ∷ ts) c h = tt

  pub retargeted-copies : CopiesAgree n.variables n.eqns → CopiesAgree n.variables (retargeted n).eqns
  retargeted-copies h =
      all_kept (with_targets r) keep_targets (λ (e : FlatEqn). CopyAgrees n.variables (copy_of e)) n.eqns
      (λ e a k. agree_by h e.targets (copied e.right) (each_among (λ (d : FlatEqn). CopyAgrees n.variables (copy_of d)) n.eqns e h a))

pub retargeted-forms : (types : List ObcType) (n : FlatNode) → AllByRecursion (EqnForm types n.variables) n.eqns → AllByRecursion (EqnForm types n.variables) (retargeted n).eqns
retargeted-forms types n h =
    all_kept (with_targets (ends n n.eqns)) (λ e. not (is_moved (ends n n.eqns) e)) (EqnForm types n.variables) n.eqns
    (λ e a k. let q : EqnForm types n.variables e = each_among (EqnForm types n.variables) n.eqns e h a in record { clock = q.clock; constants = q.constants })

pub retargeted-calls : (n : FlatNode) (names : List (List ℕ)) → CallsOnly names n.eqns → CallsOnly names (retargeted n).eqns
retargeted-calls n names h = retargeted-each n (λ clock right. CallsAmong names right) h
