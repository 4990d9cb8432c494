-- The declarations of a machine, each word of which keeps the rules.
use Rattle.std.proofs.Common.{◌≡◌, Bool, true, false, List, [], ◌∷◌, ◌++◌, Some, sym, ap, ◌∙◌, append_assoc, append-nil}
use Rattle.std.specs.List.{IsDistinct}
use Rattle.std.specs.Str.{bytes_eq}
use Rattle.hp_base.specs.declared.ty.Ty.{Ty}
use Rattle.hp_obc.specs.declared.machine.Var.{Var}
use Rattle.hp_obc.specs.declared.machine.Mem.{Mem}
use Rattle.hp_obc.specs.Form.{mem_vars}
use Rattle.hp_obctext.specs.Found.{var_entries}
use Rattle.hp_base.specs.Known.Known.{with_entry}
use Rattle.hp_obctext.specs.Rules.{AllTrue, Table, Types, is_new, comma, is_known, agree, const_ty, in_vars, with_vars, in_mems, with_mems}
use Rattle.hp_obctext.specs.Shapes.{Each}
use Rattle.hp_obctext.proofs.Truths.{front_true, back_true, keys, new_entry, entry_distinct}

-- variables were added behind those that were known, and all differ
pub record Added (ts : Types) (old new : Table Ty) (vars : List Var) : Type 0 where
  pub are : new ≡ old ++ var_entries vars
  pub distinct : IsDistinct bytes_eq (keys old) → IsDistinct bytes_eq (keys new)
  pub known : Each (λ (v : Var). is_known ts v.ty ≡ true) vars

pub vars_added : (ts : Types) (first : Bool) (old : Table Ty) (vars : List Var) → AllTrue (in_vars ts first old vars) → Added ts old (with_vars old vars) vars
vars_added ts first old [] h = record { are = sym (append-nil old); distinct = λ d. d; known = tt }
vars_added ts first old (v ∷ vs) h =
    let words = is_new old v.name ∷ true ∷ is_known ts v.ty ∷ [] in
    let here = back_true (comma first) words (front_true (comma first ++ words) (in_vars ts false (with_entry old v.name v.ty) vs) h) in
    let rest = vars_added ts false (with_entry old v.name v.ty) vs (back_true (comma first ++ words) (in_vars ts false (with_entry old v.name v.ty) vs) h) in
    record {
      are = rest.are ∙ ap (λ es. es ++ var_entries vs) (new_entry old v.name v.ty here.0) ∙ append_assoc old ((v.name, v.ty) ∷ []) (var_entries vs);
      distinct = λ d. rest.distinct (entry_distinct old v.name v.ty here.0 d);
      known = (here.1.1.0, rest.known);
    }

-- a memory has a first value of its type
abbrev pub IsFirst : Types → Mem → Type 0
IsFirst ts m = agree (const_ty ts m.first) (Some m.ty) ≡ true

pub record AddedMems (ts : Types) (old new : Table Ty) (mems : List Mem) : Type 0 where
  pub are : new ≡ old ++ var_entries (mem_vars mems)
  pub distinct : IsDistinct bytes_eq (keys old) → IsDistinct bytes_eq (keys new)
  pub known : Each (λ (v : Var). is_known ts v.ty ≡ true) (mem_vars mems)
  pub firsts : Each (IsFirst ts) mems

pub mems_added : (ts : Types) (first : Bool) (old : Table Ty) (mems : List Mem) → AllTrue (in_mems ts first old mems) → AddedMems ts old (with_mems old mems) mems
mems_added ts first old [] h = record { are = sym (append-nil old); distinct = λ d. d; known = tt; firsts = tt }
mems_added ts first old (m ∷ ms) h =
    let words = is_new old m.name ∷ true ∷ is_known ts m.ty ∷ true ∷ agree (const_ty ts m.first) (Some m.ty) ∷ [] in
    let more = in_mems ts false (with_entry old m.name m.ty) ms in
    let here = back_true (comma first) words (front_true (comma first ++ words) more h) in
    let rest = mems_added ts false (with_entry old m.name m.ty) ms (back_true (comma first ++ words) more h) in
    record {
      are = rest.are ∙ ap (λ es. es ++ var_entries (mem_vars ms)) (new_entry old m.name m.ty here.0) ∙ append_assoc old ((m.name, m.ty) ∷ []) (var_entries (mem_vars ms));
      distinct = λ d. rest.distinct (entry_distinct old m.name m.ty here.0 d);
      known = (here.1.1.0, rest.known);
      firsts = (here.1.1.1.1.0, rest.firsts);
    }
