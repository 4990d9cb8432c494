-- The machines of a file, each word of which keeps the rules, have form.
use Rattle.std.proofs.Common.{◌≡◌, ℕ, suc, ◌≤◌, Bool, true, false, not, if◌then◌else◌, List, [], ◌∷◌, ◌++◌, length, map, Option, None, Some, is_some, refl, sym, ap, subst, ◌∙◌, append_assoc, append-nil, arith}
use Rattle.std.specs.Prelude.{IsSome, IsTrue, option_map}
use Rattle.std.specs.List.{IsDistinct, All}
use Rattle.std.specs.Str.{bytes_eq}
use Rattle.std.proofs.lemmas.List.{map-append}
use Rattle.std.proofs.lemmas.List.Elements.{All-nil, All-cons, All-append}
use Rattle.hp_base.specs.declared.ty.Ty.{Ty}
use Rattle.hp_obc.specs.declared.machine.Var.{Var}
use Rattle.hp_obc.specs.declared.machine.Mem.{Mem}
use Rattle.hp_obc.specs.Form as form
use Rattle.hp_obc.specs.Form.{BothAre, TypesForm, HasConstructors, MachineForm, MachinesForm, HasObcForm, AreNames, is_name, is_constructor, constructors_of, mem_vars, written, scope, var_kinds, constant_kind, machine_named}
use Rattle.hp_obc.specs.Machines.{ObcType, Machine}
use Rattle.hp_obc.specs.Steps.{var_names, inst_names}
use Rattle.hp_obc.specs.Values.{kind_of}
use Rattle.hp_obctext.specs.Files.{Text, File}
use Rattle.hp_obctext.specs.Found.{var_entries, type_entries}
use Rattle.hp_base.specs.Known.Known.{lookup, with_entry}
use Rattle.hp_obctext.specs.Machines.{machine_of}
use Rattle.hp_obctext.specs.Rules.{AllTrue, Table, Types, is_new, comma, is_known, const_ty, in_section, in_vars, with_vars, in_mems, with_mems, in_insts, with_insts, with_instance, in_steps, context_of, in_declarations, in_machine, in_machines, in_types, with_types, no_types, in_file}
use Rattle.hp_obctext.specs.Shapes.{Each, HasName, MemHasName, IsTypeText, IsMachineText, IsFileText}
use Rattle.hp_obctext.proofs.FormDeclarations.{IsFirst, vars_added, mems_added}
use Rattle.hp_obctext.proofs.FormTypes.{Knows, types_added, keys-types, keys-cons, known_kind, const_found}
use Rattle.hp_obctext.proofs.FormSteps.{steps_form, agreed, some_value, some_same, first_some}
use Rattle.hp_obctext.proofs.LookupLaws.{Tell, tell_more, next_entry, added_in_turn, or_else, lookup-append}
use Rattle.hp_obctext.proofs.Truths.{front_true, back_true, each_append, flip, keys, new_entry, keys-push, entry_distinct, distinct_none}

-- ---- lists

to_all : {A : Type 0} (P : A → Type 0) (xs : List A) → Each P xs → All P xs
to_all P [] h = All-nil P
to_all P (x ∷ xs) h = All-cons P x xs h.0 (to_all P xs h.1)

-- names of things
named_all : {A : Type 0} (p : List ℕ → Bool) (f : A → List ℕ) (xs : List A) → Each (λ (a : A). p (f a) ≡ true) xs → All (λ x. IsTrue (p x)) (map f xs)
named_all p f [] h = All-nil (λ x. IsTrue (p x))
named_all p f (a ∷ xs) h = All-cons (λ x. IsTrue (p x)) (f a) (map f xs) h.0 (named_all p f xs h.1)

each_weaker : {A : Type 0} (P Q : A → Type 0) → ((a : A) → P a → Q a) → (xs : List A) → Each P xs → Each Q xs
each_weaker P Q f [] h = tt
each_weaker P Q f (x ∷ xs) h = (f x h.0, each_weaker P Q f xs h.1)

keys-vars : (vars : List Var) → keys (var_entries vars) ≡ var_names vars
keys-vars [] = refl
keys-vars (v ∷ vars) = ap (λ xs. v.name ∷ xs) (keys-vars vars)

section_true : (vs : List Bool) → AllTrue (in_section vs) → AllTrue vs
section_true vs h = front_true vs (true ∷ []) h.1.1

-- ---- what is looked up

vars_tell : (es : Table Ty) (vs : List Var) → Tell (with_vars es vs) (es ++ var_entries vs)
vars_tell es [] x = ap (λ fs. lookup fs x) (sym (append-nil es))
vars_tell es (v ∷ vs) x = vars_tell (with_entry es v.name v.ty) vs x ∙ next_entry es (with_entry es v.name v.ty) (var_entries vs) v.name v.ty refl x

mems_tell : (es : Table Ty) (ms : List Mem) → Tell (with_mems es ms) (es ++ var_entries (mem_vars ms))
mems_tell es [] x = ap (λ fs. lookup fs x) (sym (append-nil es))
mems_tell es (m ∷ ms) x = mems_tell (with_entry es m.name m.ty) ms x ∙ next_entry es (with_entry es m.name m.ty) (var_entries (mem_vars ms)) m.name m.ty refl x

entries-scope : (a b c d : List Var) → var_entries (a ++ (b ++ c ++ d)) ≡ var_entries a ++ (var_entries b ++ var_entries c ++ var_entries d)
entries-scope a b c d = simp map-append

entries-written : (b c d : List Var) → var_entries (b ++ c ++ d) ≡ var_entries b ++ var_entries c ++ var_entries d
entries-written b c d = simp map-append

pub scope_tells : (a b c : List Var) (d : List Mem) → Tell (with_mems (with_vars (with_vars (with_vars [] a) b) c) d) (var_entries (a ++ (b ++ c ++ mem_vars d)))
scope_tells a b c d x =
    let v1 = with_vars [] a in
    let v2 = with_vars v1 b in
    let v3 = with_vars v2 c in
    added_in_turn v1 v2 v3 (with_mems v3 d) (var_entries a) (var_entries b) (var_entries c) (var_entries (mem_vars d)) (vars_tell [] a) (vars_tell v1 b) (vars_tell v2 c) (mems_tell v3 d) x
    ∙ ap (λ es. lookup es x) (sym (entries-scope a b c (mem_vars d)))

pub written_tells : (b c : List Var) (d : List Mem) → Tell (with_mems (with_vars (with_vars [] b) c) d) (var_entries (b ++ c ++ mem_vars d))
written_tells b c d x =
    let v1 = with_vars [] b in
    let v2 = with_vars v1 c in
    mems_tell v2 d x ∙ tell_more v2 (v1 ++ var_entries c) (var_entries (mem_vars d)) (vars_tell v1 c) x
    ∙ tell_more (v1 ++ var_entries c) (var_entries b ++ var_entries c) (var_entries (mem_vars d)) (tell_more v1 (var_entries b) (var_entries c) (vars_tell [] b)) x
    ∙ ap (λ es. lookup es x) (sym (entries-written b c (mem_vars d)))

-- ---- instances

-- earlier machines are known
abbrev pub Mirrors : Table Text → List Machine → Type 0
Mirrors machines earlier = (x : List ℕ) → option_map machine_of (lookup machines x) ≡ machine_named earlier x

abbrev alt : Option Machine → Option Machine → Option Machine
alt None o = o
alt (Some m) o = Some m

pub record AddedInsts (machines : Table Text) (earlier : List Machine) (old new : Table Text) (insts : List (List ℕ × List ℕ)) : Type 0 where
  names : keys new ≡ keys old ++ inst_names insts
  distinct : IsDistinct bytes_eq (keys old) → IsDistinct bytes_eq (keys new)
  known : Each (λ (i : List ℕ × List ℕ). is_some (machine_named earlier i.1) ≡ true) insts
  pub found : (i : List ℕ) → option_map machine_of (lookup new i) ≡ alt (option_map machine_of (lookup old i)) (form.machine_of earlier insts i)

alt_none : (o : Option Machine) → alt o None ≡ o
alt_none None = refl
alt_none (Some m) = refl

alt_by : (o : Option Text) (d e : Bool) (t : Text) (g rest : Option Machine) → d ≡ e → Some (machine_of t) ≡ g →
    alt (option_map machine_of (or_else o (if d then Some t else None))) rest ≡ alt (option_map machine_of o) (if e then g else rest)
alt_by (Some u) d e t g rest p q = refl
alt_by None true true t g rest p q = q
alt_by None false false t g rest p q = refl
alt_by None true false t g rest p q = absurd cc
alt_by None false true t g rest p q = absurd cc

pub insts_added : (machines : Table Text) (earlier : List Machine) → Mirrors machines earlier → (first : Bool) (old : Table Text) (insts : List (List ℕ × List ℕ)) →
    AllTrue (in_insts machines first old insts) → AddedInsts machines earlier old (with_insts machines old insts) insts
insts_added machines earlier mirrors first old [] h =
    record { names = sym (append-nil (keys old)); distinct = λ d. d; known = tt; found = λ i. sym (alt_none (option_map machine_of (lookup old i))) }
insts_added machines earlier mirrors first old (p ∷ insts) h =
    let words = is_new old p.0 ∷ true ∷ is_some (lookup machines p.1) ∷ [] in
    let more = in_insts machines false (with_instance old p.0 (lookup machines p.1)) insts in
    let here = back_true (comma first) words (front_true (comma first ++ words) more h) in
    let t = some_value (lookup machines p.1) here.1.1.0 in
    let next : with_instance old p.0 (lookup machines p.1) ≡ old ++ (p.0, t.0) ∷ [] = ap (with_instance old p.0) t.1 ∙ new_entry old p.0 t.0 here.0 in
    let rest = insts_added machines earlier mirrors false (with_instance old p.0 (lookup machines p.1)) insts (back_true (comma first ++ words) more h) in
    let told : Some (machine_of t.0) ≡ machine_named earlier p.1 = sym (ap (option_map machine_of) t.1) ∙ mirrors p.1 in
    record {
      names = rest.names ∙ ap (λ es. keys es ++ inst_names insts) next ∙ ap (λ xs. xs ++ inst_names insts) (keys-push old p.0 t.0) ∙ append_assoc (keys old) (p.0 ∷ []) (inst_names insts);
      distinct = λ d. rest.distinct (subst (λ es. IsDistinct bytes_eq (keys es)) (sym (ap (with_instance old p.0) t.1)) (entry_distinct old p.0 t.0 here.0 d));
      known = (ap is_some (sym told), rest.known);
      found = λ i. rest.found i ∙ ap (λ es. alt (option_map machine_of (lookup es i)) (form.machine_of earlier insts i)) next
          ∙ ap (λ o. alt (option_map machine_of o) (form.machine_of earlier insts i)) (lookup-append old ((p.0, t.0) ∷ []) i)
          ∙ alt_by (lookup old i) (bytes_eq i p.0) (bytes_eq p.0 i) t.0 (machine_named earlier p.1) (form.machine_of earlier insts i) (flip i p.0) told;
    }

-- ---- machines

module _ (types : List ObcType) (ts : Types) (knows : Knows types ts) where
  kinds_known : (vars : List Var) → Each (λ (v : Var). is_known ts v.ty ≡ true) vars → IsSome (var_kinds types vars)
  kinds_known [] h = refl
  kinds_known (v ∷ vars) h = first_some (kind_of types v.ty) (var_kinds types vars) (known_kind types ts knows v.ty h.0) (kinds_known vars h.1)

  firsts_form : (mems : List Mem) → Each (IsFirst ts) mems → All (λ (x : Mem). BothAre (kind_of types x.ty) (constant_kind types x.first)) mems
  firsts_form mems h = to_all (λ (x : Mem). BothAre (kind_of types x.ty) (constant_kind types x.first)) mems
      (each_weaker (IsFirst ts) (λ (x : Mem). BothAre (kind_of types x.ty) (constant_kind types x.first)) (λ x e.
      let g = agreed (const_ty ts x.first) (Some x.ty) e in
      let found = const_found types ts knows x.first g.0 g.1 in
      let same : g.0 ≡ x.ty = some_same (sym g.2) in
      (ap (λ t. is_some (kind_of types t)) (sym same) ∙ found.1, sym (found.0 ∙ ap (kind_of types) same))) mems h)

  new_by : (o : Option Text) → not (is_some o) ≡ true → option_map machine_of o ≡ None
  new_by None h = refl
  new_by (Some t) h = absurd cc

  mem_names_each : (mems : List Mem) → Each MemHasName mems → Each HasName (mem_vars mems)
  mem_names_each [] h = tt
  mem_names_each (m ∷ ms) h = (h.0, mem_names_each ms h.1)

  machine_form : (earlier : List Machine) (machines : Table Text) → Mirrors machines earlier → (m : Text) → IsMachineText m → AllTrue (in_machine ts machines m) → MachineForm types earlier (machine_of m)
  machine_form earlier machines mirrors m shape h =
      let declared = in_declarations ts machines m in
      let steps = in_steps (context_of ts machines m) m.steps in
      let all = front_true ((true ∷ is_new machines m.name ∷ declared) ++ (true ∷ steps)) (true ∷ []) h in
      let head = front_true (true ∷ is_new machines m.name ∷ declared) (true ∷ steps) all in
      let step_words = (back_true (true ∷ is_new machines m.name ∷ declared) (true ∷ steps) all).1 in
      let v1 = with_vars [] m.inputs in
      let v2 = with_vars v1 m.outputs in
      let v3 = with_vars v2 m.vars in
      let s1 = in_section (in_vars ts true [] m.inputs) in
      let s2 = in_section (in_vars ts true v1 m.outputs) in
      let s3 = in_section (in_vars ts true v2 m.vars) in
      let s4 = in_section (in_mems ts true v3 m.mems) in
      let s5 = in_section (in_insts machines true [] m.insts) in
      let h4 = front_true (s1 ++ s2 ++ s3 ++ s4) s5 head.1.1 in
      let h3 = front_true (s1 ++ s2 ++ s3) s4 h4 in
      let h2 = front_true (s1 ++ s2) s3 h3 in
      let a1 = vars_added ts true [] m.inputs (section_true (in_vars ts true [] m.inputs) (front_true s1 s2 h2)) in
      let a2 = vars_added ts true v1 m.outputs (section_true (in_vars ts true v1 m.outputs) (back_true s1 s2 h2)) in
      let a3 = vars_added ts true v2 m.vars (section_true (in_vars ts true v2 m.vars) (back_true (s1 ++ s2) s3 h3)) in
      let a4 = mems_added ts true v3 m.mems (section_true (in_mems ts true v3 m.mems) (back_true (s1 ++ s2 ++ s3) s4 h4)) in
      let a5 = insts_added machines earlier mirrors true [] m.insts (section_true (in_insts machines true [] m.insts) (back_true (s1 ++ s2 ++ s3 ++ s4) s5 head.1.1)) in
      let all_are : with_mems v3 m.mems ≡ var_entries (scope (machine_of m)) =
      a4.are ∙ ap (λ es. es ++ var_entries (mem_vars m.mems)) (a3.are ∙ ap (λ es. es ++ var_entries m.vars) (a2.are ∙ ap (λ es. es ++ var_entries m.outputs) a1.are))
      ∙ sym (entries-scope m.inputs m.outputs m.vars (mem_vars m.mems) ∙ ap (λ es. es) (simp append_assoc)) in
      let written_known : Each (λ (v : Var). is_known ts v.ty ≡ true) (written (machine_of m)) =
      each_append _ (m.outputs ++ m.vars) (mem_vars m.mems) (each_append _ m.outputs m.vars a2.known a3.known) a4.known in
      let vars_known : Each (λ (v : Var). is_known ts v.ty ≡ true) (scope (machine_of m)) = each_append _ m.inputs (written (machine_of m)) a1.known written_known in
      let names : Each HasName (scope (machine_of m)) =
      each_append _ m.inputs (written (machine_of m)) shape.inputs (each_append _ (m.outputs ++ m.vars) (mem_vars m.mems) (each_append _ m.outputs m.vars shape.outputs shape.vars) (mem_names_each m.mems shape.mems)) in
      record {
        name = shape.name;
        new = sym (mirrors m.name) ∙ new_by (lookup machines m.name) head.1.0;
        names = (
          named_all is_name (λ (v : Var). v.name) (scope (machine_of m)) names,
          subst (IsDistinct bytes_eq) (ap keys all_are ∙ keys-vars (scope (machine_of m))) (a4.distinct (a3.distinct (a2.distinct (a1.distinct distinct_none)))),
        );
        kinds = kinds_known (scope (machine_of m)) vars_known;
        firsts = firsts_form m.mems a4.firsts;
        instances = (named_all is_name (λ (i : List ℕ × List ℕ). i.0) m.insts shape.insts, subst (IsDistinct bytes_eq) a5.names (a5.distinct distinct_none));
        instances_known = to_all (λ (i : List ℕ × List ℕ). IsSome (machine_named earlier i.1)) m.insts a5.known;
        commands = steps_form types ts knows earlier (machine_of m) (context_of ts machines m)
            (record { types_are = refl; vars_are = scope_tells m.inputs m.outputs m.vars m.mems; written_are = written_tells m.outputs m.vars m.mems; vars_known = vars_known; written_known = written_known; insts_are = a5.found })
            m.steps shape.step_texts step_words;
        deep = shape.deep;
      }

  named_push : (earlier : List Machine) (n : Machine) (x : List ℕ) → machine_named (earlier ++ n ∷ []) x ≡ alt (machine_named earlier x) (if bytes_eq n.name x then Some n else None)
  named_push [] n x = refl
  named_push (e ∷ earlier) n x = by (bytes_eq e.name x) (named_push earlier n x)
    where
      by : (d : Bool) → machine_named (earlier ++ n ∷ []) x ≡ alt (machine_named earlier x) (if bytes_eq n.name x then Some n else None) →
          (if d then Some e else machine_named (earlier ++ n ∷ []) x) ≡ alt (if d then Some e else machine_named earlier x) (if bytes_eq n.name x then Some n else None)
      by true h = refl
      by false h = h

  mirror_by : (o : Option Text) (d e : Bool) (t : Text) → d ≡ e → option_map machine_of (or_else o (if d then Some t else None)) ≡ alt (option_map machine_of o) (if e then Some (machine_of t) else None)
  mirror_by (Some u) d e t p = refl
  mirror_by None true true t p = refl
  mirror_by None false false t p = refl
  mirror_by None true false t p = absurd cc
  mirror_by None false true t p = absurd cc

  pub mirrors_push : (earlier : List Machine) (machines : Table Text) (m : Text) → Mirrors machines earlier → is_new machines m.name ≡ true → Mirrors (with_entry machines m.name m) (earlier ++ machine_of m ∷ [])
  mirrors_push earlier machines m h n x =
      ap (λ es. option_map machine_of (lookup es x)) (new_entry machines m.name m n) ∙ ap (option_map machine_of) (lookup-append machines ((m.name, m) ∷ []) x)
      ∙ mirror_by (lookup machines x) (bytes_eq x m.name) (bytes_eq m.name x) m (flip x m.name)
      ∙ ap (λ o. alt o (if bytes_eq m.name x then Some (machine_of m) else None)) (h x) ∙ sym (named_push earlier (machine_of m) x)

  machines_form : (earlier : List Machine) (machines : Table Text) → Mirrors machines earlier → (ms : List Text) → Each IsMachineText ms → AllTrue (in_machines ts machines ms) → MachinesForm types earlier (map machine_of ms)
  machines_form earlier machines mirrors [] shape h = tt
  machines_form earlier machines mirrors (m ∷ ms) shape h =
      let here = front_true (in_machine ts machines m) (in_machines ts (with_entry machines m.name m) ms) h in
      let declared = in_declarations ts machines m in
      let steps = in_steps (context_of ts machines m) m.steps in
      let head = front_true (true ∷ is_new machines m.name ∷ declared) (true ∷ steps) (front_true ((true ∷ is_new machines m.name ∷ declared) ++ (true ∷ steps)) (true ∷ []) here) in (
        machine_form earlier machines mirrors m shape.0 here,
        machines_form (earlier ++ machine_of m ∷ []) (with_entry machines m.name m) (mirrors_push earlier machines m mirrors head.1.0) ms shape.1 (back_true (in_machine ts machines m) (in_machines ts (with_entry machines m.name m) ms) h),
      )

-- ---- files

cons_all : (types : List ObcType) → Each IsTypeText types → All (λ x. IsTrue (is_constructor x)) (constructors_of types)
cons_all [] h = All-nil (λ x. IsTrue (is_constructor x))
cons_all (t ∷ types) h = All-append (λ x. IsTrue (is_constructor x)) t.cons (constructors_of types) (to_all (λ x. IsTrue (is_constructor x)) t.cons h.0.cons) (cons_all types h.1)

counts_all : (types : List ObcType) → Each IsTypeText types → Each (λ (t : ObcType). length t.cons ≤ 64) types → All HasConstructors types
counts_all [] h k = All-nil HasConstructors
counts_all (t ∷ types) h k = All-cons HasConstructors t types (h.0.some, k.0) (counts_all types h.1 k.1)

as_many_types : (types : List ObcType) → length (type_entries types) ≡ length types
as_many_types [] = refl
as_many_types (t ∷ types) = ap suc (as_many_types types)

-- a file whose words keep the rules has form
pub file_form : (f : File) → IsFileText f → AllTrue (in_file f) → HasObcForm f.types (map machine_of f.machines)
file_form f shape h =
    let known = with_types no_types f.types in
    let more = in_machines known [] f.machines in
    let added = types_added no_types f.types (front_true (in_types no_types f.types) more h.1.1) in
    let names_differ : IsDistinct bytes_eq (map (λ (t : ObcType). t.name) f.types) = subst (IsDistinct bytes_eq) (ap keys added.names ∙ keys-types f.types) (added.names_distinct distinct_none) in
    let cons_differ : IsDistinct bytes_eq (constructors_of f.types) = subst (IsDistinct bytes_eq) (ap keys added.cons ∙ keys-cons f.types) (added.cons_distinct distinct_none) in
    let number = added.number (omega arith) in (
      record {
        number = omega (arith, number, ap length added.names, as_many_types f.types);
        names = (named_all is_name (λ (t : ObcType). t.name) f.types (each_weaker IsTypeText (λ (t : ObcType). is_name t.name ≡ true) (λ t s. s.name) f.types shape.types), names_differ);
        counts = counts_all f.types shape.types added.few;
        constructors = cons_all f.types shape.types;
        distinct = cons_differ;
      },
      machines_form f.types known (record { names = added.names; cons = added.cons; distinct = names_differ }) [] [] (λ x. refl) f.machines shape.machines (back_true (in_types no_types f.types) more h.1.1),
    )
