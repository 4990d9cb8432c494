-- Maps from names to how they are defined, entry by entry.
use Rattle.std.proofs.Common.{◌≡◌, ℕ, zero, suc, ◌+◌, ◌≤◌, ◌<◌, length, Bool, true, false, cond, if◌then◌else◌, List, [], ◌∷◌, slice_get, drop, Option, None, Some, is_some, unwrap_or, Bor, refl, sym, ap, subst, ◌∙◌, arith}
use Rattle.std.proofs.Math.Numerals.{add-one}
use Rattle.std.specs.Str.{bytes_eq}
use Rattle.std.specs.List.{IsDistinct, AllByRecursion}
use Rattle.std.specs.Map.{lookup, keys_of}
use Rattle.std.specs.Cmp.Lexicographic.{same_text, nat_list_eq_equiv}
use Rattle.std.proofs.lemmas.Map.Keys.{IsDistinct-head, IsDistinct-tail}
use Rattle.hp_typing.proofs.FoundLaws.{drop-end}
use Rattle.hp_typing.proofs.UseCases.{beside-never, worse-never, worse-again}
use Rattle.hp_typing.specs.declared.uses.Use.{Use}
use Rattle.hp_typing.specs.declared.uses.Use.TheVariants.{Never}
use Rattle.hp_typing.specs.declared.uses.Uses.{Uses}
use Rattle.hp_typing.specs.Uses.{beside, between, worse, both, worst, pairwise, worsened, how, put_at}

abbrev pub Entries : Type 0
Entries = List (Bor (List ℕ) × Use)

abbrev pub key_eq : Bor (List ℕ) → Bor (List ℕ) → Bool
key_eq x y = bytes_eq x.now y.now

-- what some entries say of a name, and whether they have it
abbrev pub found : Entries → List ℕ → Option Use
found es x = lookup (λ k. bytes_eq x k.now) es

abbrev pub said : Entries → List ℕ → Use
said es x = unwrap_or (found es x) Never

drop-at : (es : Entries) (i : ℕ) (e : Bor (List ℕ) × Use) → slice_get es i ≡ Some e → drop i es ≡ e ∷ drop (suc i) es
drop-at [] i e h = absurd cc
drop-at (x ∷ es) zero e h = let same : x ≡ e = cc in ap (λ y. y ∷ es) same
drop-at (x ∷ es) (suc i) e h = drop-at es i e h

pub no_entry : (es : Entries) (i : ℕ) → i < length es → None ≡ slice_get es i → ⊥
no_entry [] i h p = omega arith
no_entry (e ∷ es) zero h p = cc
no_entry (e ∷ es) (suc i) h p = no_entry es i (omega arith) p

absent : (es : Entries) (k : Bor (List ℕ)) → AllByRecursion (λ y. key_eq k y ≡ false) (keys_of es) → found es k.now ≡ None
absent [] k h = refl
absent (e ∷ es) k h = rw (h.0) (absent es k h.1)

-- the name of an entry has none behind it
later : (es : Entries) (i : ℕ) (e : Bor (List ℕ) × Use) → IsDistinct key_eq (keys_of es) → slice_get es i ≡ Some e → found (drop (suc i) es) e.0.now ≡ None
later [] i e d h = absurd cc
later (x ∷ es) zero e d h =
    let same : x ≡ e = cc in
    subst (λ (y : Bor (List ℕ) × Use). found es y.0.now ≡ None) same (absent es x.0 (IsDistinct-head key_eq x.0 (keys_of es) d))
later (x ∷ es) (suc i) e d h = later es i e (IsDistinct-tail key_eq x.0 (keys_of es) d) h

-- one more entry of others is added
add-one_name : (f : List ℕ → Use) (k x : List ℕ) (u : Use) (more : Option Use) (d : Bool) → bytes_eq k x ≡ d → (b : Bool) → bytes_eq x k ≡ b → (k ≡ x → more ≡ None)
    → beside (if d then beside (f k) u else f x) (unwrap_or more Never) ≡ beside (f x) (unwrap_or (cond b (Some u) more) Never)
add-one_name f k x u more true p true q none =
    let same : k ≡ x = same_text k x (sym p) in
    ap (λ m. beside (beside (f k) u) (unwrap_or m Never)) (none same) ∙ beside-never (beside (f k) u) ∙ ap (λ y. beside (f y) u) same
add-one_name f k x u more false p false q none = refl
add-one_name f k x u more true p false q none = let same : k ≡ x = same_text k x (sym p) in let r : bytes_eq x x ≡ true = nat_list_eq_equiv.refl x in let s : bytes_eq x x ≡ false = ap (bytes_eq x) (sym same) ∙ q in absurd cc
add-one_name f k x u more false p true q none = let same : x ≡ k = same_text x k (sym q) in let r : bytes_eq k k ≡ true = nat_list_eq_equiv.refl k in let s : bytes_eq k k ≡ false = ap (bytes_eq k) (sym same) ∙ p in absurd cc

pub add-step : (es : Entries) (i : ℕ) (k : Bor (List ℕ)) (u w : Use) (f g all : List ℕ → Use) → IsDistinct key_eq (keys_of es) → slice_get es i ≡ Some (k, u)
    → w ≡ beside (f k.now) u → g ≡ put_at f k.now w → both f (said (drop i es)) ≡ all → both g (said (drop (i + 1) es)) ≡ all
add-step es i k u w f g all d at e1 e2 e3 =
    let more = drop (suc i) es in
    let next : drop (i + 1) es ≡ more = ap (λ n. drop n es) (add-one i) in
    let one : (x : List ℕ) → both g (said more) x ≡ both f (said ((k, u) ∷ more)) x =
    λ x. ap (λ h. beside (h x) (said more x)) (e2 ∙ ap (put_at f k.now) e1)
    ∙ add-one_name f k.now x u (found more x) (bytes_eq k.now x) refl (bytes_eq x k.now) refl
    (λ same. ap (found more) (sym same) ∙ later es i (k, u) d at) in
    let whole : both g (said more) ≡ both f (said ((k, u) ∷ more)) = λ j x. one x j in
    ap (λ rest. both g (said rest)) next ∙ whole ∙ ap (λ rest. both f (said rest)) (sym (drop-at es i (k, u) at)) ∙ e3

-- ---- the worse of two

abbrev pub worse_in : Entries → (List ℕ → Use) → (List ℕ → Use) → List ℕ → Use
worse_in es f g x = if is_some (found es x) then worse (f x) (g x) else f x

worse_one : (f g : List ℕ → Use) (k x : List ℕ) (u : Use) (more : Option Use) (d : Bool) → bytes_eq k x ≡ d → (b : Bool) → bytes_eq x k ≡ b → (k ≡ x → more ≡ None)
    → (if is_some more then worse (if d then worse (f k) (g k) else f x) (g x) else (if d then worse (f k) (g k) else f x))
    ≡ (if is_some (cond b (Some u) more) then worse (f x) (g x) else f x)
worse_one f g k x u more true p true q none =
    let same : k ≡ x = same_text k x (sym p) in
    ap (λ m. if is_some m then worse (worse (f k) (g k)) (g x) else worse (f k) (g k)) (none same) ∙ ap (λ y. worse (f y) (g y)) same
worse_one f g k x u more false p false q none = refl
worse_one f g k x u more true p false q none = let same : k ≡ x = same_text k x (sym p) in let r : bytes_eq x x ≡ true = nat_list_eq_equiv.refl x in let s : bytes_eq x x ≡ false = ap (bytes_eq x) (sym same) ∙ q in absurd cc
worse_one f g k x u more false p true q none = let same : x ≡ k = same_text x k (sym q) in let r : bytes_eq k k ≡ true = nat_list_eq_equiv.refl k in let s : bytes_eq k k ≡ false = ap (bytes_eq k) (sym same) ∙ p in absurd cc

pub worse-step : (es : Entries) (i : ℕ) (k : Bor (List ℕ)) (u w : Use) (f g h all : List ℕ → Use) → IsDistinct key_eq (keys_of es) → slice_get es i ≡ Some (k, u)
    → w ≡ worse (f k.now) (g k.now) → h ≡ put_at f k.now w → worse_in (drop i es) f g ≡ all → worse_in (drop (i + 1) es) h g ≡ all
worse-step es i k u w f g h all d at e1 e2 e3 =
    let more = drop (suc i) es in
    let next : drop (i + 1) es ≡ more = ap (λ n. drop n es) (add-one i) in
    let one : (x : List ℕ) → worse_in more h g x ≡ worse_in ((k, u) ∷ more) f g x =
    λ x. ap (λ j. worse_in more j g x) (e2 ∙ ap (put_at f k.now) e1)
    ∙ worse_one f g k.now x u (found more x) (bytes_eq k.now x) refl (bytes_eq x k.now) refl
    (λ same. ap (found more) (sym same) ∙ later es i (k, u) d at) in
    let whole : worse_in more h g ≡ worse_in ((k, u) ∷ more) f g = λ j x. one x j in
    ap (λ rest. worse_in rest h g) next ∙ whole ∙ ap (λ rest. worse_in rest f g) (sym (drop-at es i (k, u) at)) ∙ e3

-- of two blocks each name that one of them has is made worse, so each name is
pub pair_law : (a b : Uses) (f : List ℕ → Use) → worsened b (worsened a f (pairwise (how a) (how b))) (pairwise (how a) (how b)) ≡ worst f (pairwise (how a) (how b))
pair_law a b f = λ j x. by x (found a.names.entries x) (found b.names.entries x) j
  where
    by : (x : List ℕ) (m n : Option Use)
        → (let v = between (unwrap_or m Never) (unwrap_or n Never) in
        (if is_some n then worse (if is_some m then worse (f x) v else f x) v else (if is_some m then worse (f x) v else f x)) ≡ worse (f x) v)
    by x None None = sym (worse-never (f x))
    by x (Some u) None = refl
    by x None (Some v) = refl
    by x (Some u) (Some v) = worse-again (f x) (between u v)

-- nothing is behind the last entry
pub added-end : (es : Entries) (i : ℕ) (f all : List ℕ → Use) → length es ≤ i → both f (said (drop i es)) ≡ all → f ≡ all
added-end es i f all h e =
    let none : both f (said []) ≡ f = λ j x. beside-never (f x) j in
    sym none ∙ ap (λ more. both f (said more)) (sym (drop-end es i h)) ∙ e

pub worse-end : (es : Entries) (i : ℕ) (f g all : List ℕ → Use) → length es ≤ i → worse_in (drop i es) f g ≡ all → f ≡ all
worse-end es i f g all h e = ap (λ more. worse_in more f g) (sym (drop-end es i h)) ∙ e
