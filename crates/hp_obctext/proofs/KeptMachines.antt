-- The text of a file of form: its words are plain, and it is a file that keeps the rules and has these machines.
use Rattle.std.proofs.Common.{◌≡◌, ◌≤◌, ℕ, suc, Bool, true, false, not, if◌then◌else◌, List, [], ◌∷◌, ◌++◌, map, codes, Option, None, Some, is_some, refl, sym, ap, subst, ◌∙◌, append_assoc, append-nil}
use Rattle.std.specs.Prelude.{IsSome, IsTrue, option_map}
use Rattle.std.specs.List.{IsDistinct}
use Rattle.std.specs.Str.{bytes_eq}
use Rattle.std.proofs.lemmas.List.{map-append}
use Rattle.hp_base.specs.Kinds.{Constructors}
use Rattle.hp_base.specs.declared.ty.Ty.{Ty}
use Rattle.hp_base.specs.declared.ty.Ty.TheVariants as ty
use Rattle.hp_obc.specs.declared.machine.Var.{Var}
use Rattle.hp_obc.specs.declared.machine.Mem.{Mem}
use Rattle.hp_obc.specs.Form.{BothAre, MachineForm, MachinesForm, HasObcForm, is_name, is_constructor, constructors_of, mem_vars, written, scope, var_kinds, constant_kind, machine_named, depth}
use Rattle.hp_obc.specs.Machines.{ObcType, Machine, Obc}
use Rattle.hp_obc.specs.Steps.{var_names, inst_names}
use Rattle.hp_obc.specs.Values.{kind_of, enum_from}
use Rattle.hp_base.specs.Known.Known.{lookup, with_entry}
use Rattle.hp_obctext.specs.Files as file
use Rattle.hp_obctext.specs.Files.{Text, File, type_word, const_word, each, var_words, mem_words, inst_words, steps_words, constructors_words, type_words, machine_words, file_words}
use Rattle.hp_obctext.specs.Labels.{text_of, file_of}
use Rattle.hp_obctext.specs.Machines.{machine_of, machines_of}
use Rattle.hp_obctext.specs.Rules.{AllTrue, Table, Types, is_new, comma, is_known, agree, const_ty, in_section, in_vars, with_vars, in_mems, with_mems, in_insts, with_instance, in_steps, context_of, in_declarations, in_machine, in_machines, in_types, with_types, no_types, in_file}
use Rattle.hp_obctext.specs.Shapes.{Each, HasName, MemHasName, InstHasName, IsTypeText, IsMachineText, IsFileText}
use Rattle.hp_obctext.specs.Words.{Word, leading, fixed, small}
use Rattle.hp_obctext.proofs.FormMachines.{Mirrors, insts_added, scope_tells, written_tells, mirrors_push}
use Rattle.hp_obctext.proofs.FormSteps.{same_kinds, Sees, some_value}
use Rattle.hp_obctext.proofs.FormTypes.{Knows}
use Rattle.hp_obctext.proofs.KeptSteps.{firsts_by}
use Rattle.hp_obctext.proofs.KeptTypes.{true_append, from_all, distinct_new, distinct_next, kind_known, const_typed, kinds_agree, all_types_keep, types_known, all_type_texts}
use Rattle.hp_obctext.proofs.PrintedWords.{IsPlain, small_plain, capital_plain}
use Rattle.hp_obctext.proofs.SaidSteps.{Plain, good_steps, const_plain}
use Rattle.hp_obctext.proofs.Truths.{front_each, back_each, each_append, equal_bytes, keys}

-- ---- lists

unmapped : {A B : Type 0} (P : B → Type 0) (f : A → B) (xs : List A) → Each P (map f xs) → Each (λ a. P (f a)) xs
unmapped P f [] h = tt
unmapped P f (x ∷ xs) h = (h.0, unmapped P f xs h.1)

each_more : {A : Type 0} (P Q : A → Type 0) → ((a : A) → P a → Q a) → (xs : List A) → Each P xs → Each Q xs
each_more P Q f [] h = tt
each_more P Q f (x ∷ xs) h = (f x h.0, each_more P Q f xs h.1)

comma_true : (first : Bool) → AllTrue (comma first)
comma_true true = tt
comma_true false = (refl, tt)

-- ---- declarations

record KeptNames (verdicts : List Bool) (es : List (List ℕ)) (rest : List (List ℕ)) : Type 0 where
  kept : AllTrue verdicts
  distinct : IsDistinct bytes_eq (es ++ rest)

vars_keep : (ts : Types) (first : Bool) (old : Table Ty) (vars : List Var) (rest : List (List ℕ)) → IsDistinct bytes_eq (keys old ++ (var_names vars ++ rest)) → Each (λ (v : Var). is_known ts v.ty ≡ true) vars →
    KeptNames (in_vars ts first old vars) (keys (with_vars old vars)) rest
vars_keep ts first old [] rest d k = record { kept = tt; distinct = d }
vars_keep ts first old (v ∷ vs) rest d k =
    let more = vars_keep ts false (with_entry old v.name v.ty) vs rest (distinct_next old v.name v.ty (var_names vs ++ rest) d) k.1 in
    let here = is_new old v.name ∷ true ∷ is_known ts v.ty ∷ [] in
    record {
      kept = true_append (comma first ++ here) (in_vars ts false (with_entry old v.name v.ty) vs)
          (true_append (comma first) here (comma_true first) (distinct_new old v.name (var_names vs ++ rest) d, (refl, (k.0, tt)))) more.kept;
      distinct = more.distinct;
    }

mems_keep : (ts : Types) (first : Bool) (old : Table Ty) (mems : List Mem) (rest : List (List ℕ)) → IsDistinct bytes_eq (keys old ++ (var_names (mem_vars mems) ++ rest)) → Each (λ (v : Var). is_known ts v.ty ≡ true) (mem_vars mems) →
    Each (λ (x : Mem). agree (const_ty ts x.first) (Some x.ty) ≡ true) mems → KeptNames (in_mems ts first old mems) (keys (with_mems old mems)) rest
mems_keep ts first old [] rest d k f = record { kept = tt; distinct = d }
mems_keep ts first old (m ∷ ms) rest d k f =
    let more = mems_keep ts false (with_entry old m.name m.ty) ms rest (distinct_next old m.name m.ty (var_names (mem_vars ms) ++ rest) d) k.1 f.1 in
    let here = is_new old m.name ∷ true ∷ is_known ts m.ty ∷ true ∷ agree (const_ty ts m.first) (Some m.ty) ∷ [] in
    record {
      kept = true_append (comma first ++ here) (in_mems ts false (with_entry old m.name m.ty) ms)
          (true_append (comma first) here (comma_true first) (distinct_new old m.name (var_names (mem_vars ms) ++ rest) d, (refl, (k.0, (refl, (f.0, tt)))))) more.kept;
      distinct = more.distinct;
    }

insts_keep : (machines : Table Text) (first : Bool) (old : Table Text) (insts : List (List ℕ × List ℕ)) → IsDistinct bytes_eq (keys old ++ inst_names insts) → Each (λ (i : List ℕ × List ℕ). is_some (lookup machines i.1) ≡ true) insts →
    AllTrue (in_insts machines first old insts)
insts_keep machines first old [] d k = tt
insts_keep machines first old (i ∷ is) d k =
    let here = is_new old i.0 ∷ true ∷ is_some (lookup machines i.1) ∷ [] in
    let found = some_value (lookup machines i.1) k.0 in
    let next : IsDistinct bytes_eq (keys (with_instance old i.0 (lookup machines i.1)) ++ inst_names is) =
    subst (λ o. IsDistinct bytes_eq (keys (with_instance old i.0 o) ++ inst_names is)) (sym found.1) (distinct_next old i.0 found.0 (inst_names is) d) in
    true_append (comma first ++ here) (in_insts machines false (with_instance old i.0 (lookup machines i.1)) is)
    (true_append (comma first) here (comma_true first) (distinct_new old i.0 (inst_names is) d, (refl, (k.0, tt))))
    (insts_keep machines false (with_instance old i.0 (lookup machines i.1)) is next k.1)

section_kept : (vs : List Bool) → AllTrue vs → AllTrue (in_section vs)
section_kept vs h = (refl, (refl, true_append vs (true ∷ []) h (refl, tt)))

-- ---- plain words

each_plain : {A : Type 0} (words : A → List Word) (xs : List A) → Each (λ a. Plain (words a)) xs → Plain (each words xs)
each_plain words [] h = tt
each_plain words (x ∷ xs) h = each_append IsPlain (words x) (each words xs) h.0 (each_plain words xs h.1)

commas_plain : {A : Type 0} (words : A → List Word) (xs : List A) → Each (λ a. Plain (words a)) xs → Plain (each (file.comma words) xs)
commas_plain words [] h = tt
commas_plain words (x ∷ xs) h = (((refl, refl), refl), each_append IsPlain (words x) (each (file.comma words) xs) h.0 (commas_plain words xs h.1))

listed_plain : {A : Type 0} (words : A → List Word) (xs : List A) → Each (λ a. Plain (words a)) xs → Plain (file.listed words xs)
listed_plain words [] h = tt
listed_plain words (x ∷ xs) h = each_append IsPlain (words x) (each (file.comma words) xs) h.0 (commas_plain words xs h.1)

section_plain : {A : Type 0} (title : List ℕ) (words : A → List Word) (xs : List A) → IsPlain (leading title) → Each (λ a. Plain (words a)) xs → Plain (file.section title words xs)
section_plain title words xs t h = (t, (((refl, refl), refl), each_append IsPlain (file.listed words xs) (fixed (codes ")") ∷ []) (listed_plain words xs h) (((refl, refl), refl), tt)))

constructors_plain : (xs : List (List ℕ)) → Each (λ (x : List ℕ). is_constructor x ≡ true) xs → Plain (constructors_words xs)
constructors_plain [] h = tt
constructors_plain (x ∷ xs) h = (capital_plain x h.0, others xs h.1)
  where
    others : (xs : List (List ℕ)) → Each (λ (x : List ℕ). is_constructor x ≡ true) xs → Plain (each file.next_constructor xs)
    others [] h = tt
    others (x ∷ xs) h = (((refl, refl), refl), (capital_plain x h.0, others xs h.1))

types_plain : (types : List ObcType) → Each IsTypeText types → Plain (each type_words types)
types_plain [] h = tt
types_plain (t ∷ types) h =
    each_append IsPlain (type_words t) (each type_words types) (((refl, refl), refl), (small_plain t.name h.0.name, (((refl, refl), refl), constructors_plain t.cons h.0.cons))) (types_plain types h.1)

enum_named : (n : ℕ) (types : List ObcType) → Each IsTypeText types → (x : List ℕ) → is_some (enum_from n types x) ≡ true → is_name x ≡ true
enum_named n [] s x h = absurd cc
enum_named n (t ∷ types) s x h = by (bytes_eq t.name x) refl h (enum_named (suc n) types s.1 x)
  where
    by : (d : Bool) → bytes_eq t.name x ≡ d → is_some (if d then Some (Constructors n t.cons) else enum_from (suc n) types x) ≡ true → (is_some (enum_from (suc n) types x) ≡ true → is_name x ≡ true) → is_name x ≡ true
    by true e h k = ap is_name (sym (equal_bytes t.name x e)) ∙ s.0.name
    by false e h k = k h

machine_is_named : (earlier : List Machine) → Each (λ (m : Machine). is_name m.name ≡ true) earlier → (x : List ℕ) → is_some (machine_named earlier x) ≡ true → is_name x ≡ true
machine_is_named [] n x h = absurd cc
machine_is_named (m ∷ earlier) n x h = by (bytes_eq m.name x) refl h (machine_is_named earlier n.1 x)
  where
    by : (d : Bool) → bytes_eq m.name x ≡ d → is_some (if d then Some m else machine_named earlier x) ≡ true → (is_some (machine_named earlier x) ≡ true → is_name x ≡ true) → is_name x ≡ true
    by true e h k = ap is_name (sym (equal_bytes m.name x e)) ∙ n.0
    by false e h k = k h

module _ (types : List ObcType) (texts : Each IsTypeText types) (ts : Types) (knows : Knows types ts) (cons : Each (λ (x : List ℕ). is_constructor x ≡ true) (constructors_of types)) where
  type_plain : (t : Ty) → IsSome (kind_of types t) → IsPlain (type_word t)
  type_plain ty.Bool h = ((refl, refl), refl)
  type_plain ty.Int h = ((refl, refl), refl)
  type_plain (ty.Enum x) h = small_plain x (enum_named 0 types texts x h)

  vars_plain : (vars : List Var) → Each HasName vars → Each (λ (v : Var). IsSome (kind_of types v.ty)) vars → Each (λ v. Plain (var_words v)) vars
  vars_plain [] n k = tt
  vars_plain (v ∷ vs) n k = ((small_plain v.name n.0, (((refl, refl), refl), (type_plain v.ty k.0, tt))), vars_plain vs n.1 k.1)

  mems_plain : (mems : List Mem) → Each MemHasName mems → Each (λ (x : Mem). BothAre (kind_of types x.ty) (constant_kind types x.first)) mems → Each (λ m. Plain (mem_words m)) mems
  mems_plain [] n k = tt
  mems_plain (m ∷ ms) n k =
      ((small_plain m.name n.0, (((refl, refl), refl), (type_plain m.ty k.0.0, (((refl, refl), refl), (const_plain types cons m.first (ap is_some (sym k.0.1) ∙ k.0.0), tt))))), mems_plain ms n.1 k.1)

  insts_plain : (earlier : List Machine) → Each (λ (m : Machine). is_name m.name ≡ true) earlier → (insts : List (List ℕ × List ℕ)) → Each InstHasName insts → Each (λ (i : List ℕ × List ℕ). IsSome (machine_named earlier i.1)) insts →
      Each (λ i. Plain (inst_words i)) insts
  insts_plain earlier e [] n k = tt
  insts_plain earlier e (i ∷ is) n k = ((small_plain i.0 n.0, (((refl, refl), refl), (small_plain i.1 (machine_is_named earlier e i.1 k.0), tt))), insts_plain earlier e is n.1 k.1)

  kinds_each : (vars : List Var) → is_some (var_kinds types vars) ≡ true → Each (λ (v : Var). IsSome (kind_of types v.ty)) vars
  kinds_each [] h = tt
  kinds_each (v ∷ vs) h = let f = firsts_by (kind_of types v.ty) (var_kinds types vs) h in (ap is_some f.first_is, kinds_each vs (ap is_some f.others_are))

  first_agrees : (x : Mem) → BothAre (kind_of types x.ty) (constant_kind types x.first) → agree (const_ty ts x.first) (Some x.ty) ≡ true
  first_agrees x h =
      let k = some_value (kind_of types x.ty) h.0 in
      let t = const_typed types ts knows x.first (ap is_some (sym h.1) ∙ h.0) in
      kinds_agree types (const_ty ts x.first) (Some x.ty) t.type x.ty k.0 k.0 t.is refl (t.kind_is ∙ sym h.1 ∙ k.1) k.1 (same_kinds k.0)

  mem_names_from : (mems : List Mem) → Each HasName (mem_vars mems) → Each MemHasName mems
  mem_names_from [] h = tt
  mem_names_from (m ∷ ms) h = (h.0, mem_names_from ms h.1)

  names_scope : (a b c d : List Var) → var_names (a ++ (b ++ c ++ d)) ≡ var_names a ++ (var_names b ++ (var_names c ++ (var_names d ++ [])))
  names_scope a b c d = simp (map-append, append_assoc, append-nil)

  -- what the text of a machine is
  record GoodMachine (machines : Table Text) (m : Machine) : Type 0 where
    plain : Plain (machine_words (text_of types m))
    shape : IsMachineText (text_of types m)
    kept : AllTrue (in_machine ts machines (text_of types m))
    same : machine_of (text_of types m) ≡ m

  told_none : (o : Option Text) (q : Option Machine) → option_map machine_of o ≡ q → q ≡ None → not (is_some o) ≡ true
  told_none None q e h = refl
  told_none (Some t) q e h = absurd cc

  told_some : (o : Option Text) (q : Option Machine) → option_map machine_of o ≡ q → is_some q ≡ true → is_some o ≡ true
  told_some None q e h = absurd (let clash = ap is_some e ∙ h in cc)
  told_some (Some t) q e h = refl

  good_machine : (earlier : List Machine) (machines : Table Text) → Mirrors machines earlier → Each (λ (m : Machine). is_name m.name ≡ true) earlier → (m : Machine) → MachineForm types earlier m → GoodMachine machines m
  good_machine earlier machines mirrors called m h =
      let t = text_of types m in
      let v1 = with_vars [] m.inputs in
      let v2 = with_vars v1 m.outputs in
      let v3 = with_vars v2 m.vars in
      let n2 = var_names (mem_vars m.mems) ++ [] in
      let n1 = var_names m.vars ++ n2 in
      let n0 = var_names m.outputs ++ n1 in
      let names = unmapped (λ (x : List ℕ). is_name x ≡ true) (λ (v : Var). v.name) (scope m) (from_all (λ (x : List ℕ). IsTrue (is_name x)) (var_names (scope m)) h.names.0) in
      let writes = back_each HasName m.inputs (written m) names in
      let both = front_each HasName (m.outputs ++ m.vars) (mem_vars m.mems) writes in
      let mem_names = mem_names_from m.mems (back_each HasName (m.outputs ++ m.vars) (mem_vars m.mems) writes) in
      let insts = unmapped (λ (x : List ℕ). is_name x ≡ true) (λ (i : List ℕ × List ℕ). i.0) m.insts (from_all (λ (x : List ℕ). IsTrue (is_name x)) (inst_names m.insts) h.instances.0) in
      let kinds = kinds_each (scope m) h.kinds in
      let kinds_written = back_each (λ (v : Var). IsSome (kind_of types v.ty)) m.inputs (written m) kinds in
      let kinds_both = front_each (λ (v : Var). IsSome (kind_of types v.ty)) (m.outputs ++ m.vars) (mem_vars m.mems) kinds_written in
      let known = each_more (λ (v : Var). IsSome (kind_of types v.ty)) (λ (v : Var). is_known ts v.ty ≡ true) (λ v k. kind_known types ts knows v.ty k) (scope m) kinds in
      let known_written = back_each (λ (v : Var). is_known ts v.ty ≡ true) m.inputs (written m) known in
      let known_both = front_each (λ (v : Var). is_known ts v.ty ≡ true) (m.outputs ++ m.vars) (mem_vars m.mems) known_written in
      let firsts = from_all (λ (x : Mem). BothAre (kind_of types x.ty) (constant_kind types x.first)) m.mems h.firsts in
      let agreed = each_more (λ (x : Mem). BothAre (kind_of types x.ty) (constant_kind types x.first)) (λ (x : Mem). agree (const_ty ts x.first) (Some x.ty) ≡ true) first_agrees m.mems firsts in
      let insts_named = from_all (λ (i : List ℕ × List ℕ). IsSome (machine_named earlier i.1)) m.insts h.instances_known in
      let insts_known = each_more (λ (i : List ℕ × List ℕ). IsSome (machine_named earlier i.1)) (λ (i : List ℕ × List ℕ). is_some (lookup machines i.1) ≡ true)
      (λ i k. told_some (lookup machines i.1) (machine_named earlier i.1) (mirrors i.1) k) m.insts insts_named in
      let differ = subst (IsDistinct bytes_eq) (names_scope m.inputs m.outputs m.vars (mem_vars m.mems)) h.names.1 in
      let k1 = vars_keep ts true [] m.inputs n0 differ (front_each (λ (v : Var). is_known ts v.ty ≡ true) m.inputs (written m) known) in
      let k2 = vars_keep ts true v1 m.outputs n1 k1.distinct (front_each (λ (v : Var). is_known ts v.ty ≡ true) m.outputs m.vars known_both) in
      let k3 = vars_keep ts true v2 m.vars n2 k2.distinct (back_each (λ (v : Var). is_known ts v.ty ≡ true) m.outputs m.vars known_both) in
      let k4 = mems_keep ts true v3 m.mems [] k3.distinct (back_each (λ (v : Var). is_known ts v.ty ≡ true) (m.outputs ++ m.vars) (mem_vars m.mems) known_written) agreed in
      let k5 = insts_keep machines true [] m.insts h.instances.1 insts_known in
      let s1 = in_section (in_vars ts true [] m.inputs) in
      let s2 = in_section (in_vars ts true v1 m.outputs) in
      let s3 = in_section (in_vars ts true v2 m.vars) in
      let s4 = in_section (in_mems ts true v3 m.mems) in
      let s5 = in_section (in_insts machines true [] m.insts) in
      let declared = true_append (s1 ++ s2 ++ s3 ++ s4) s5 (true_append (s1 ++ s2 ++ s3) s4 (true_append (s1 ++ s2) s3 (true_append s1 s2 (section_kept (in_vars ts true [] m.inputs) k1.kept) (section_kept (in_vars ts true v1 m.outputs) k2.kept))
      (section_kept (in_vars ts true v2 m.vars) k3.kept)) (section_kept (in_mems ts true v3 m.mems) k4.kept)) (section_kept (in_insts machines true [] m.insts) k5) in
      let added = insts_added machines earlier mirrors true [] m.insts k5 in
      let sees : Sees types ts earlier m (context_of ts machines t) = record {
        types_are = refl;
        vars_are = scope_tells m.inputs m.outputs m.vars m.mems;
        written_are = written_tells m.outputs m.vars m.mems;
        vars_known = known;
        written_known = known_written;
        insts_are = added.found;
      } in
      let good = good_steps types ts knows cons earlier m (context_of ts machines t) sees names writes insts m.step h.commands in
      let new = told_none (lookup machines m.name) (machine_named earlier m.name) (mirrors m.name) h.new in
      let head = true ∷ is_new machines m.name ∷ in_declarations ts machines t in
      let steps = in_steps (context_of ts machines t) t.steps in
      let w1 = file.section (codes "in") var_words m.inputs in
      let w2 = file.section (codes "out") var_words m.outputs in
      let w3 = file.section (codes "var") var_words m.vars in
      let w4 = file.section (codes "mem") mem_words m.mems in
      let w5 = file.section (codes "inst") inst_words m.insts in
      let start = leading (codes "machine") ∷ small m.name ∷ w1 in
      let last = leading (codes "end") ∷ [] in
      record {
        plain =
            each_append IsPlain (start ++ w2 ++ w3 ++ w4 ++ w5 ++ (leading (codes "step") ∷ steps_words t.steps)) last
            (each_append IsPlain (start ++ w2 ++ w3 ++ w4 ++ w5) (leading (codes "step") ∷ steps_words t.steps)
            (each_append IsPlain (start ++ w2 ++ w3 ++ w4) w5
            (each_append IsPlain (start ++ w2 ++ w3) w4
            (each_append IsPlain (start ++ w2) w3
            (each_append IsPlain start w2 (
              ((refl, refl), refl),
              (
                small_plain m.name h.name,
                section_plain (codes "in") var_words m.inputs ((refl, refl), refl)
                    (vars_plain m.inputs (front_each HasName m.inputs (written m) names) (front_each (λ (v : Var). IsSome (kind_of types v.ty)) m.inputs (written m) kinds)),
              ),
            )
            (section_plain (codes "out") var_words m.outputs ((refl, refl), refl) (vars_plain m.outputs (front_each HasName m.outputs m.vars both) (front_each (λ (v : Var). IsSome (kind_of types v.ty)) m.outputs m.vars kinds_both))))
            (section_plain (codes "var") var_words m.vars ((refl, refl), refl) (vars_plain m.vars (back_each HasName m.outputs m.vars both) (back_each (λ (v : Var). IsSome (kind_of types v.ty)) m.outputs m.vars kinds_both))))
            (section_plain (codes "mem") mem_words m.mems ((refl, refl), refl) (mems_plain m.mems mem_names firsts)))
            (section_plain (codes "inst") inst_words m.insts ((refl, refl), refl) (insts_plain earlier called m.insts insts insts_named)))
            (((refl, refl), refl), good.plain))
            (((refl, refl), refl), tt);
        shape = record {
          name = h.name;
          inputs = front_each HasName m.inputs (written m) names;
          outputs = front_each HasName m.outputs m.vars both;
          vars = back_each HasName m.outputs m.vars both;
          mems = mem_names;
          insts = insts;
          step_texts = good.shape;
          deep = subst (λ cs. depth cs ≤ 300) (sym good.same) h.deep;
        };
        kept = true_append (head ++ (true ∷ steps)) (true ∷ []) (true_append head (true ∷ steps) (refl, (new, declared)) (refl, good.kept)) (refl, tt);
        same = ap (λ cs. record { name = m.name; inputs = m.inputs; outputs = m.outputs; vars = m.vars; mems = m.mems; insts = m.insts; step = cs }) good.same;
      }

  record GoodMachines (machines : Table Text) (ms : List Machine) : Type 0 where
    plain : Plain (each machine_words (map (text_of types) ms))
    shape : Each IsMachineText (map (text_of types) ms)
    kept : AllTrue (in_machines ts machines (map (text_of types) ms))
    same : map machine_of (map (text_of types) ms) ≡ ms

  good_machines : (earlier : List Machine) (machines : Table Text) → Mirrors machines earlier → Each (λ (m : Machine). is_name m.name ≡ true) earlier → (ms : List Machine) → MachinesForm types earlier ms → GoodMachines machines ms
  good_machines earlier machines mirrors called [] h = record { plain = tt; shape = tt; kept = tt; same = refl }
  good_machines earlier machines mirrors called (m ∷ ms) h =
      let t = text_of types m in
      let here = good_machine earlier machines mirrors called m h.0 in
      let new = told_none (lookup machines m.name) (machine_named earlier m.name) (mirrors m.name) h.0.new in
      let mirror : Mirrors (with_entry machines m.name t) (earlier ++ m ∷ []) =
      subst (λ n. Mirrors (with_entry machines m.name t) (earlier ++ n ∷ [])) here.same (mirrors_push types ts knows earlier machines t mirrors new) in
      let rest = good_machines (earlier ++ m ∷ []) (with_entry machines m.name t) mirror (each_append (λ (m : Machine). is_name m.name ≡ true) earlier (m ∷ []) called (h.0.name, tt)) ms h.1 in
      record {
        plain = each_append IsPlain (machine_words t) (each machine_words (map (text_of types) ms)) here.plain rest.plain;
        shape = (here.shape, rest.shape);
        kept = true_append (in_machine ts machines t) (in_machines ts (with_entry machines m.name t) (map (text_of types) ms)) here.kept rest.kept;
        same = ap (λ n. n ∷ map machine_of (map (text_of types) ms)) here.same ∙ ap (λ ns. m ∷ ns) rest.same;
      }

-- ---- files

-- what the text of a file is
pub record GoodFile (o : Obc) : Type 0 where
  pub plain : Plain (file_words (file_of o))
  pub shape : IsFileText (file_of o)
  pub kept : AllTrue (in_file (file_of o))
  pub same : machines_of (file_of o) ≡ o

pub good_file : (o : Obc) → HasObcForm o.types o.machines → GoodFile o
good_file o h =
    let texts = all_type_texts o.types h.0 in
    let ts = with_types no_types o.types in
    let cons = from_all (λ (x : List ℕ). IsTrue (is_constructor x)) (constructors_of o.types) h.0.constructors in
    let good = good_machines o.types texts ts (types_known o.types h.0) cons [] [] (λ x. refl) tt o.machines h.1 in
    let ms = map (text_of o.types) o.machines in
    record {
      plain = (((refl, refl), refl), (((refl, refl), refl), each_append IsPlain (each type_words o.types) (each machine_words ms) (types_plain o.types texts) good.plain));
      shape = record { types = texts; machines = good.shape };
      kept = (refl, (refl, true_append (in_types no_types o.types) (in_machines ts [] ms) (all_types_keep o.types h.0) good.kept));
      same = ap (λ ms. record { types = o.types; machines = ms }) good.same;
    }
