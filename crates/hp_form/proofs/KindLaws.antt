-- What types and constructors are by their numbers.
use Rattle.std.proofs.Common.{◌≡◌, ℕ, suc, Bool, true, false, ◌||◌, if◌then◌else◌, List, [], ◌∷◌, ◌++◌, length, Option, None, Some, ℤ, pos, negsuc, refl, sym, ap, ◌∙◌, append_assoc, arith}
use Rattle.std.specs.Prelude.{option_map}
use Rattle.std.specs.Int.{w32}
use Rattle.std.specs.Int.RustNames.{FitsSigned}
use Rattle.std.proofs.lemmas.Bool.Decides.{nat_tests}
use Rattle.std.specs.Str.{bytes_eq}
use Rattle.hp_obc.proofs.Positions.{bytes_eq-sym}
use Rattle.hp_base.specs.Kinds.{KindData, Ints, Constructors}
use Rattle.hp_obc.specs.Machines.{ObcType}
use Rattle.hp_obc.specs.Values.{enum_from}
use Rattle.hp_obc.specs.Form.{has_name, constructor_kind, is_short}
use Rattle.hp_base.specs.Known.Known.{lookup}
use Rattle.hp_form.specs.declared.kind.Kind.TheVariants as code
use Rattle.hp_form.specs.Kinds.{cons_at, kind_at, maybe_at, numbered, all_at, held}

-- the type behind others
cons_behind : (before : List ObcType) (t : ObcType) (later : List ObcType) → cons_at (before ++ t ∷ later) (length before) ≡ t.cons
cons_behind [] t later = refl
cons_behind (b ∷ before) t later = cons_behind before t later

one_longer : (before : List ObcType) (t : ObcType) → length (before ++ t ∷ []) ≡ suc (length before)
one_longer [] t = refl
one_longer (b ∷ before) t = ap suc (one_longer before t)

abbrev told : List ObcType → Option ℕ → Option KindData
told types o = option_map (λ n. kind_at types (code.Enum n)) o

enum_by : (d e : Bool) (types : List ObcType) (n : ℕ) (xs : List (List ℕ)) (o : Option KindData) (p : Option ℕ) → d ≡ e → cons_at types n ≡ xs → o ≡ told types p → (if d then Some (Constructors n xs) else o) ≡ told types (if e then Some n else p)
enum_by true true types n xs o p h q k = ap (λ z. Some (Constructors n z)) (sym q)
enum_by false false types n xs o p h q k = k
enum_by true false types n xs o p h q k = absurd cc
enum_by false true types n xs o p h q k = absurd cc

enum_behind : (before types : List ObcType) (x : List ℕ) → enum_from (length before) types x ≡ told (before ++ types) (lookup (numbered (length before) types) x)
enum_behind before [] x = refl
enum_behind before (t ∷ types) x =
    enum_by (bytes_eq t.name x) (bytes_eq x t.name) (before ++ t ∷ types) (length before) t.cons (enum_from (suc (length before)) types x) (lookup (numbered (suc (length before)) types) x)
    (bytes_eq-sym t.name x) (cons_behind before t types)
    (ap (λ n. enum_from n types x) (sym (one_longer before t)) ∙ enum_behind (before ++ t ∷ []) types x
    ∙ ap (λ ts. told ts (lookup (numbered (length (before ++ t ∷ [])) types) x)) (append_assoc before (t ∷ []) types)
    ∙ ap (λ n. told (before ++ t ∷ types) (lookup (numbered n types) x)) (one_longer before t))

pub enum_told : (types : List ObcType) (x : List ℕ) → enum_from 0 types x ≡ maybe_at types (option_map code.Enum (lookup (numbered 0 types) x))
enum_told types x = enum_behind [] types x ∙ twice (lookup (numbered 0 types) x)
  where
    twice : (o : Option ℕ) → told types o ≡ maybe_at types (option_map code.Enum o)
    twice None = refl
    twice (Some n) = refl

-- the entries of the constructors of one type
all_at_by : (d e : Bool) (n : ℕ) (r : Bool) (o p : Option ℕ) → d ≡ e → o ≡ (if r then Some n else p) → (if d then Some n else o) ≡ (if e || r then Some n else p)
all_at_by true true n r o p h k = refl
all_at_by false false n r o p h k = k
all_at_by true false n r o p h k = absurd cc
all_at_by false true n r o p h k = absurd cc

lookup-all_at : (n : ℕ) (xs : List (List ℕ)) (es : List (List ℕ × ℕ)) (x : List ℕ) → lookup (all_at n xs ++ es) x ≡ (if has_name xs x then Some n else lookup es x)
lookup-all_at n [] es x = refl
lookup-all_at n (y ∷ xs) es x = all_at_by (bytes_eq x y) (bytes_eq y x) n (has_name xs x) (lookup (all_at n xs ++ es) x) (lookup es x) (bytes_eq-sym x y) (lookup-all_at n xs es x)

constructor_by : (d : Bool) (types : List ObcType) (n : ℕ) (xs : List (List ℕ)) (o : Option KindData) (p : Option ℕ) → cons_at types n ≡ xs → o ≡ told types p → (if d then Some (Constructors n xs) else o) ≡ told types (if d then Some n else p)
constructor_by true types n xs o p q k = ap (λ z. Some (Constructors n z)) (sym q)
constructor_by false types n xs o p q k = k

constructor_behind : (before types : List ObcType) (x : List ℕ) → constructor_kind (length before) types x ≡ told (before ++ types) (lookup (held (length before) types) x)
constructor_behind before [] x = refl
constructor_behind before (t ∷ types) x =
    constructor_by (has_name t.cons x) (before ++ t ∷ types) (length before) t.cons (constructor_kind (suc (length before)) types x) (lookup (held (suc (length before)) types) x) (cons_behind before t types)
    (ap (λ n. constructor_kind n types x) (sym (one_longer before t)) ∙ constructor_behind (before ++ t ∷ []) types x
    ∙ ap (λ ts. told ts (lookup (held (length (before ++ t ∷ [])) types) x)) (append_assoc before (t ∷ []) types)
    ∙ ap (λ n. told (before ++ t ∷ types) (lookup (held n types) x)) (one_longer before t))
    ∙ ap (told (before ++ t ∷ types)) (sym (lookup-all_at (length before) t.cons (held (suc (length before)) types) x))

pub constructor_told : (types : List ObcType) (x : List ℕ) → constructor_kind 0 types x ≡ maybe_at types (option_map code.Enum (lookup (held 0 types) x))
constructor_told types x = constructor_behind [] types x ∙ twice (lookup (held 0 types) x)
  where
    twice : (o : Option ℕ) → told types o ≡ maybe_at types (option_map code.Enum o)
    twice None = refl
    twice (Some n) = refl

fits_short : (n : ℤ) → FitsSigned w32 n → is_short n ≡ true
fits_short (pos n) h = let k = h.sfits in grind (arith, nat_tests)
fits_short (negsuc n) h = let k = h.sfits in grind (arith, nat_tests)

-- the kind of an integer
pub integer_told : (n : ℤ) → FitsSigned w32 n → Some Ints ≡ (if is_short n then Some Ints else None)
integer_told n h = sym (ap (λ d. if d then Some Ints else None) (fits_short n h))
