-- Two lists of machines that are one but for controllers do the same.
use Rattle.std.proofs.Common.{◌≡◌, ℕ, suc, Bool, true, false, List, [], ◌∷◌, ◌++◌, inl, inr, ◌⊎◌, map, Option, None, Some, refl, sym, ap, subst, ◌∙◌, if◌then◌else◌, arith}
use Rattle.std.specs.Prelude.{IsSome}
use Rattle.std.specs.List.{All}
use Rattle.std.specs.Str.{bytes_eq}
use Rattle.std.proofs.lemmas.List.{append_assoc, append-nil}
use Rattle.std.proofs.lemmas.Slice.Eq.{bytes_eq-Decides}
use Rattle.hp_obc.specs.Form.{HasConstructors, MachinesForm, TypesForm, machine_named, mem_vars}
use Rattle.hp_obc.specs.Kinded.{MemoryKinds, inner_kinds, kinds_behind, kinds_in, kinds_of_kept, memory_kinds, more_kinds, none_kept}
use Rattle.hp_obc.specs.Machines.{Machine, ObcType}
use Rattle.hp_obc.specs.Steps.{Behaviour, Known, Names, behaviour, given, known_behind, unknown}
use Rattle.hp_obc.proofs.KindLaws.{AllKinded, known-more, machine-kinded, none-kinded}
use Rattle.hp_exec.specs.Hooked.{AgreeInKind}
use Rattle.hp_exec.proofs.InKind.{machine-agrees}
use Rattle.law_controlled.specs.Alike.{AreNearly, AreOneList, IsNearly}
use Rattle.law_controlled.specs.Alike.IsNearly.{one, control}
use Rattle.law_controlled.proofs.ControlLaws.{ControlLaws, controllers_agree, insts_none, keeps_none, mems_none, named}

same_name : (x y : List ℕ) → bytes_eq x y ≡ true → x ≡ y
same_name x y = (bytes_eq-Decides x y).0

its_name : (x y : List ℕ) → x ≡ y → bytes_eq x y ≡ true
its_name x y = (bytes_eq-Decides x y).1

some_machine : (m n : Machine) → ◌≡◌ {A = Option Machine} (Some m) (Some n) → m ≡ n
some_machine m n e = cc

module _ (l : ControlLaws) (types : List ObcType) (form : TypesForm types) where
  abbrev counts : All HasConstructors types
  counts = form.counts

  -- what is known of the machines so far
  record AgreeSoFar (earlier : List Machine) (known others : Known) (keeps keeps_too : Names MemoryKinds) : Type 0 where
    does : (x : List ℕ) (m : Machine) → machine_named earlier x ≡ Some m → AgreeInKind (kinds_in types m.inputs) (keeps x) (others x) (known x)
    kinds : (x : List ℕ) (m : Machine) → machine_named earlier x ≡ Some m → keeps x ≡ keeps_too x

  module _ (earlier : List Machine) (known others : Known) (keeps keeps_too : Names MemoryKinds) (agree : AgreeSoFar earlier known others keeps keeps_too) where
    inner_same : (insts : List (List ℕ × List ℕ)) → All (λ (i : List ℕ × List ℕ). IsSome (machine_named earlier i.1)) insts
        → inner_kinds (map (λ (i : List ℕ × List ℕ). keeps i.1) insts) ≡ inner_kinds (map (λ (i : List ℕ × List ℕ). keeps_too i.1) insts)
    inner_same [] h = refl
    inner_same (p ∷ insts) h =
        let callee = there (machine_named earlier p.1) (h 0 p (omega arith)) in
        let first : keeps p.1 ≡ keeps_too p.1 = agree.kinds p.1 callee.0 callee.1 in
        λ j. more_kinds (first j) (inner_same insts (λ k d lt. h (suc k) d (omega (arith, lt))) j)
      where
        there : (o : Option Machine) → IsSome o → (m : Machine) × (o ≡ Some m)
        there None h = absurd (cc)
        there (Some m) h = (m, refl)

    keeps_same : (m : Machine) → All (λ (i : List ℕ × List ℕ). IsSome (machine_named earlier i.1)) m.insts → kinds_of_kept types keeps m ≡ kinds_of_kept types keeps_too m
    keeps_same m h = ap (memory_kinds (kinds_in types (mem_vars m.mems))) (inner_same m.insts h)

    -- one more machine of each list
    module _ (m : Machine) (b other : Behaviour) (k k_too : MemoryKinds) (new : machine_named earlier m.name ≡ None) (does : AgreeInKind (kinds_in types m.inputs) k other b) (kinds : k ≡ k_too) where
      -- a name is of one before, or of the new one
      abbrev At : List ℕ → Machine → Type 0
      At x c =
          AgreeInKind (kinds_in types c.inputs) (given m.name k keeps x) (given m.name other others x) (given m.name b known x)
          × (given m.name k keeps x ≡ given m.name k_too keeps_too x)

      at_new : (x : List ℕ) → bytes_eq m.name x ≡ true → At x m
      at_new x e = (
        subst (λ d. AgreeInKind (kinds_in types m.inputs) (if d then k else keeps x) (if d then other else others x) (if d then b else known x)) (sym e) does,
        (λ j. if e j then k else keeps x) ∙ kinds ∙ (λ j. if sym e j then k_too else keeps_too x),
      )

      at_before : (x : List ℕ) (c : Machine) → machine_named earlier x ≡ Some c → At x c
      at_before x c there =
          let e : bytes_eq m.name x ≡ false = differs (bytes_eq m.name x) refl in (
            subst (λ d. AgreeInKind (kinds_in types c.inputs) (if d then k else keeps x) (if d then other else others x) (if d then b else known x)) (sym e) (agree.does x c there),
            (λ j. if e j then k else keeps x) ∙ agree.kinds x c there ∙ (λ j. if sym e j then k_too else keeps_too x),
          )
        where
          differs : (d : Bool) → bytes_eq m.name x ≡ d → bytes_eq m.name x ≡ false
          differs true q =
              let both : None ≡ Some c = sym new ∙ ap (machine_named earlier) (same_name m.name x q) ∙ there in absurd cc
          differs false q = q

      found : (machines : List Machine) (x : List ℕ) (c : Machine) → machine_named (machines ++ m ∷ []) x ≡ Some c → (machine_named machines x ≡ Some c) ⊎ ((bytes_eq m.name x ≡ true) × (m ≡ c))
      found [] x c p = last (bytes_eq m.name x) refl p
        where
          last : (d : Bool) → bytes_eq m.name x ≡ d → (if d then Some m else None) ≡ Some c → (machine_named [] x ≡ Some c) ⊎ ((bytes_eq m.name x ≡ true) × (m ≡ c))
          last true e q = inr (e, some_machine m c q)
          last false e q = absurd (cc)
      found (n ∷ machines) x c p = by (bytes_eq n.name x) p (found machines x c)
        where
          by : (d : Bool) → (if d then Some n else machine_named (machines ++ m ∷ []) x) ≡ Some c
              → (machine_named (machines ++ m ∷ []) x ≡ Some c → (machine_named machines x ≡ Some c) ⊎ ((bytes_eq m.name x ≡ true) × (m ≡ c)))
              → ((if d then Some n else machine_named machines x) ≡ Some c) ⊎ ((bytes_eq m.name x ≡ true) × (m ≡ c))
          by true q rest = inl q
          by false q rest = rest q

      at_name : (x : List ℕ) (c : Machine) → machine_named (earlier ++ m ∷ []) x ≡ Some c → At x c
      at_name x c p = by (found earlier x c p)
        where
          by : (machine_named earlier x ≡ Some c) ⊎ ((bytes_eq m.name x ≡ true) × (m ≡ c)) → At x c
          by (inl q) = at_before x c q
          by (inr q) = subst (At x) q.1 (at_new x q.0)

      one_more : AgreeSoFar (earlier ++ m ∷ []) (given m.name b known) (given m.name other others) (given m.name k keeps) (given m.name k_too keeps_too)
      one_more = record { does = λ x c p. (at_name x c p).0; kinds = λ x c p. (at_name x c p).1 }

  -- what a machine does and keeps, and what the other one does, and its name
  record Pair (earlier : List Machine) (known others : Known) (keeps keeps_too : Names MemoryKinds) (m o : Machine) : Type 0 where
    does : AgreeInKind (kinds_in types m.inputs) (kinds_of_kept types keeps m) (behaviour types others o) (behaviour types known m)
    kinds : kinds_of_kept types keeps m ≡ kinds_of_kept types keeps_too o
    name : m.name ≡ o.name

  pair : (earlier : List Machine) (known others : Known) (keeps keeps_too : Names MemoryKinds) → AgreeSoFar earlier known others keeps keeps_too → AllKinded types earlier known keeps → (m o : Machine) → MachinesForm types earlier (m ∷ [])
      → IsNearly types m o → Pair earlier known others keeps keeps_too m o
  pair earlier known others keeps keeps_too agree kinded m o its (one same) =
      let does = machine-agrees types earlier m known keeps its.0 counts kinded others agree.does in
      record {
        does = subst (λ (z : Machine). AgreeInKind (kinds_in types m.inputs) (kinds_of_kept types keeps m) (behaviour types others z) (behaviour types known m)) same does;
        kinds = keeps_same earlier known others keeps keeps_too agree m its.0.instances_known ∙ ap (kinds_of_kept types keeps_too) same;
        name = ap (λ (z : Machine). z.name) same;
      }
  pair earlier known others keeps keeps_too agree kinded m o its (control both) =
      let are = both.are in
      let bm = are.machine in
      record {
        does = controllers_agree l types form bm both.node both.other_node are.first are.second m o both.made both.other_made known others keeps;
        kinds =
            keeps_none types m (mems_none l types form bm both.node are.first m both.made) (insts_none l types form bm both.node are.first m both.made) keeps
            ∙ sym (keeps_none types o (mems_none l types form bm both.other_node are.second o both.other_made) (insts_none l types form bm both.other_node are.second o both.other_made) keeps_too);
        name = named l types form bm both.node are.first m both.made ∙ are.first.name ∙ sym are.second.name ∙ sym (named l types form bm both.other_node are.second o both.other_made);
      }

  all_agree : (earlier ms os : List Machine) (known others : Known) (keeps keeps_too : Names MemoryKinds) → AgreeSoFar earlier known others keeps keeps_too → AllKinded types earlier known keeps → MachinesForm types earlier ms → AreNearly types ms os
      → AgreeSoFar (earlier ++ ms) (known_behind types ms known) (known_behind types os others) (kinds_behind types ms keeps) (kinds_behind types os keeps_too)
  all_agree earlier [] [] known others keeps keeps_too agree kinded its nearly = subst (λ es. AgreeSoFar es known others keeps keeps_too) (sym (append-nil earlier)) agree
  all_agree earlier [] (o ∷ os) known others keeps keeps_too agree kinded its nearly = absurd nearly
  all_agree earlier (m ∷ ms) [] known others keeps keeps_too agree kinded its nearly = absurd nearly
  all_agree earlier (m ∷ ms) (o ∷ os) known others keeps keeps_too agree kinded its nearly =
      let both = pair earlier known others keeps keeps_too agree kinded m o (its.0, tt) nearly.0 in
      let b : Behaviour = behaviour types known m in
      let other : Behaviour = behaviour types others o in
      let k : MemoryKinds = kinds_of_kept types keeps m in
      let k_too : MemoryKinds = kinds_of_kept types keeps_too o in
      let more = one_more earlier known others keeps keeps_too agree m b other k k_too its.0.new both.does both.kinds in
      let next = known-more types earlier m known keeps b k its.0.new (machine-kinded types earlier m known keeps its.0 counts kinded) kinded in
      let rest =
      all_agree (earlier ++ m ∷ []) ms os (given m.name b known) (given m.name other others) (given m.name k keeps) (given m.name k_too keeps_too) more next its.1 nearly.1 in
      let here : AgreeSoFar (earlier ++ (m ∷ ms)) (known_behind types ms (given m.name b known)) (known_behind types os (given m.name other others)) (kinds_behind types ms (given m.name k keeps)) (kinds_behind types os (given m.name k_too keeps_too)) =
      subst
      (λ es. AgreeSoFar es (known_behind types ms (given m.name b known)) (known_behind types os (given m.name other others)) (kinds_behind types ms (given m.name k keeps)) (kinds_behind types os (given m.name k_too keeps_too)))
      (append_assoc earlier (m ∷ []) ms) rest in
      subst
      (λ name. AgreeSoFar (earlier ++ (m ∷ ms)) (known_behind types ms (given m.name b known)) (known_behind types os (given name other others)) (kinds_behind types ms (given m.name k keeps)) (kinds_behind types os (given name k_too keeps_too)))
      both.name here

  pub nearly_one : (ms os : List Machine) → MachinesForm types [] ms → AreNearly types ms os → AreOneList (record { types = types; machines = ms }) (record { types = types; machines = os })
  nearly_one ms os its nearly f m found =
      let all = all_agree [] ms os unknown unknown (λ x. none_kept) (λ x. none_kept) (record { does = λ x c p. absurd (cc); kinds = λ x c p. absurd (cc) }) (none-kinded types) its nearly in
      record { keeps = all.kinds f m found; does = all.does f m found }
