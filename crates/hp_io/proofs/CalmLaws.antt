-- Laws of folders that fail nowhere but in reads of names that they do not hold.
use Rattle.std.proofs.Common.{◌≡◌, ◌∙◌, ◌≤◌, ℕ, zero, suc, Bool, true, false, cond, List, [], ◌∷◌, map, take, None, Some, refl, sym, ap, arith, string_bytes}
use Rattle.std.specs.Prelude.{bytes_eq, String, Vec}
use Rattle.std.specs.declared.alloc.Global.{Global}
use Rattle.std.specs.FinMap as finmap
use Rattle.std.specs.Ordering.{nat_cmp}
use Rattle.std.specs.Cmp.Lexicographic.{slice_cmp}
use Rattle.std.proofs.lemmas.Cmp.{nat_list_cmp_total}
use Rattle.hp_io.specs.Faults.{Rose, AllSame, NoneFell, one_more}
use Rattle.hp_io.specs.Memory.{CalmState, calm_faults, entry_of, files_of, names_of, is_among}
use Rattle.hp_io.proofs.Placed.{tied}

-- a name that is not held is not among the first names
none_found : (files : List (String Global × Vec ℕ Global)) (most : ℕ) (name : List ℕ) → finmap.find (slice_cmp nat_cmp) name (map entry_of files) ≡ None
    → is_among (take most (names_of files)) name ≡ false
none_found [] zero name none = refl
none_found [] (suc most) name none = refl
none_found (f ∷ files) zero name none = refl
none_found (f ∷ files) (suc most) name none =
    elim (bytes_eq (string_bytes f.0) name) as (λ b. bytes_eq (string_bytes f.0) name ≡ b → cond b true (is_among (take most (names_of files)) name) ≡ false) [
      | true ↦ λ same. absurd (cc (none, ap (λ b. cond b (Some f.1.items) (finmap.find (slice_cmp nat_cmp) name (map entry_of files))) (tied (string_bytes f.0) name true same)))
      | false ↦ λ other. none_found files most name (sym (ap (λ b. cond b (Some f.1.items) (finmap.find (slice_cmp nat_cmp) name (map entry_of files))) (tied (string_bytes f.0) name false other)) ∙ none)
    ] refl

pub not_among : (files : List (String Global × Vec ℕ Global)) (most : ℕ) (name : List ℕ) → finmap.get (files_of files) name ≡ None → is_among (take most (names_of files)) name ≡ false
not_among files most name none = none_found files most name (sym (finmap.get-from_entries nat_list_cmp_total (map entry_of files) name) ∙ none)

-- a read of a name that it was not made with failed
pub calm_rose : (before after : CalmState) (name : List ℕ) → is_among before.made name ≡ false → after.made ≡ before.made → after.read_faults ≡ one_more before.read_faults
    → after.has_failed ≡ true → Rose (calm_faults before name) (calm_faults after name)
calm_rose before after name apart made count last = record {
  may = apart;
  count =
      ap (λ b. cond b 0 after.read_faults) (ap (λ names. is_among names name) made ∙ apart)
      ∙ count
      ∙ ap (λ b. one_more (cond b 0 before.read_faults)) (sym apart);
  calm = ap (λ names. is_among names name) made;
  last = last;
}

pub calm_same : (before after : CalmState) → after.made ≡ before.made → after.read_faults ≡ before.read_faults → AllSame (calm_faults before) (calm_faults after)
calm_same before after made count name = record {
  count = ap (λ names. cond (is_among names name) 0 after.read_faults) made ∙ ap (λ n. cond (is_among before.made name) 0 n) count;
  calm = ap (λ names. is_among names name) made;
}

fell_by : (b : Bool) (old new : ℕ) → old ≤ new → cond b 0 old ≤ cond b 0 new
fell_by true old new less = omega arith
fell_by false old new less = less

pub calm_none_fell : (before after : CalmState) → after.made ≡ before.made → before.read_faults ≤ after.read_faults → NoneFell (calm_faults before) (calm_faults after)
calm_none_fell before after made less name =
    let is = fell_by (is_among before.made name) before.read_faults after.read_faults less in
    let same = ap (λ names. cond (is_among names name) 0 after.read_faults) made in
    omega (arith, is, same)
