-- What tables say of names.
use Rattle.std.proofs.Common.{◌≡◌, ℕ, zero, suc, ◌+◌, ◌<◌, ◌≤◌, get_or, length, drop, map, Bool, true, false, ◌||◌, cond, if◌then◌else◌, List, [], ◌∷◌, ◌++◌, Option, None, Some, is_some, option_map, unwrap_or, Bor, refl, sym, ap, ◌∙◌, arith}
use Rattle.std.specs.Str.{bytes_eq}
use Rattle.hp_names.proofs.FoundLaws.{drop-next, drop-end}
use Rattle.hp_base.specs.declared.span.Span.{Span}
use Rattle.hp_tree.specs.Blocks.{Decl}
use Rattle.hp_tree.specs.Meaning.{declares, names_of as declared}
use Rattle.hp_init.specs.Wants.{must_be_first, some_must}
use Rattle.hp_tables.specs.declared.defining.layer.Layer.{Layer}
use Rattle.hp_tables.specs.Defining.Layers.{numbered, put_at, no_entry, says, says_numbers, says_seen, said, or_none, sight}
use Rattle.hp_tables.specs.Defining.Names.{listed}
use Rattle.hp_init.specs.Asks.{Sight, over}
use Rattle.hp_init.specs.Tables.{declared_in}
use Rattle.hp_tables.proofs.DefiningLemmas.LayerLaws.{first_said, said-last}

-- ---- declarations

pub declared-end : (ds : List Decl) (i : ℕ) → length ds ≤ i → no_entry ≡ declared_in (drop i ds)
declared-end ds i h = sym (ap declared_in (drop-end ds i h))

pub declared-next : (ds : List Decl) (i k : ℕ) (d : Decl) → k ≡ i + 1 → i < length ds → d ≡ get_or ds i d → put_at (declared_in (drop k ds)) d.name (is_some d.last) ≡ declared_in (drop i ds)
declared-next ds i k d next h p =
    ap (λ m. put_at (declared_in (drop m ds)) d.name (is_some d.last)) next ∙ sym (ap declared_in (drop-next ds i d h p))

declared_by : (d b : Bool) (o : Option Bool) → is_some (if d then Some b else o) ≡ (d || is_some o)
declared_by true b o = refl
declared_by false b o = refl

pub declares-in : (ds : List Decl) (x : List ℕ) → is_some (declared_in ds x) ≡ declares ds x
declares-in [] x = refl
declares-in (d ∷ ds) x = declared_by (bytes_eq d.name x) (is_some d.last) (declared_in ds x) ∙ ap (λ r. bytes_eq d.name x || r) (declares-in ds x)

must_by : (d b : Bool) (o : Option Bool) (r : Bool) → unwrap_or o true ≡ r → unwrap_or (if d then Some b else o) true ≡ (if d then b else r)
must_by true b o r e = refl
must_by false b o r e = e

pub must-in : (ds : List Decl) (x : List ℕ) → unwrap_or (declared_in ds x) true ≡ must_be_first ds x
must-in [] x = refl
must-in (d ∷ ds) x = must_by (bytes_eq d.name x) (is_some d.last) (declared_in ds x) (must_be_first ds x) (must-in ds x)

pub must-next : (ds : List Decl) (ys : List (List ℕ × Span)) (i : ℕ) (y : List ℕ × Span) → i < length ys → y ≡ get_or ys i y → some_must ds (drop i ys) ≡ (must_be_first ds y.0 || some_must ds (drop (i + 1) ys))
must-next ds ys i y h p = ap (some_must ds) (drop-next ys i y h p)

-- ---- what is seen inside

over_by : (ls : List Layer) (x : List ℕ) (o : Option ℕ) → or_none (first_said (option_map Some o) (said ls x)) ≡ over (λ y. o) (sight ls) x
over_by ls x None = refl
over_by ls x (Some j) = refl

pub sight-numbers : (ls : List Layer) (l : Layer) (k : ℕ) (names : List (List ℕ)) → says l ≡ says_numbers k names → sight (ls ++ l ∷ []) ≡ over (numbered k names) (sight ls)
sight-numbers ls l k names h =
    let one : (x : List ℕ) → sight (ls ++ l ∷ []) x ≡ over (numbered k names) (sight ls) x =
    λ x. ap or_none (said-last ls l x)
    ∙ ap (λ (f : List ℕ → Option (Option ℕ)). or_none (first_said (f x) (said ls x))) h
    ∙ over_by ls x (numbered k names x) in
    λ j x. one x j

seen_where : (see : Sight) (x : List ℕ) (d r : Bool) (o : Option (Option ℕ)) → o ≡ (if r then Some (see x) else None) → (if d then Some (see x) else o) ≡ (if d || r then Some (see x) else None)
seen_where see x true r o e = refl
seen_where see x false r o e = e

says_listed : (names : List (List ℕ)) (see : Sight) (x : List ℕ) → says_seen names see x ≡ (if listed names x then Some (see x) else None)
says_listed [] see x = refl
says_listed (y ∷ ys) see x = seen_where see x (bytes_eq y x) (listed ys x) (says_seen ys see x) (says_listed ys see x)

read_by : (ls : List Layer) (x : List ℕ) (s : Option ℕ) (d : Bool) → or_none (first_said (if d then Some s else None) (said ls x)) ≡ (if d then s else sight ls x)
read_by ls x s true = refl
read_by ls x s false = refl

pub sight-seen : (ls : List Layer) (l : Layer) (names : List (List ℕ)) (see : Sight) (x : List ℕ) → says l ≡ says_seen names see → sight (ls ++ l ∷ []) x ≡ (if listed names x then see x else sight ls x)
sight-seen ls l names see x h =
    ap or_none (said-last ls l x)
    ∙ ap (λ (f : List ℕ → Option (Option ℕ)). or_none (first_said (f x) (said ls x))) h
    ∙ ap (λ (o : Option (Option ℕ)). or_none (first_said o (said ls x))) (says_listed names see x)
    ∙ read_by ls x (see x) (listed names x)
