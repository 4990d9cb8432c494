-- What the loops keep that join and fuse commands.
use Rattle.std.proofs.Common.{◌≡◌, ◌≤◌, ◌<◌, ◌+◌, ℕ, zero, suc, Bool, true, false, ◌&&◌, List, [], ◌∷◌, ◌++◌, length, map, get_or, set, refl, sym, ap, ◌∙◌, subst, arith}
use Rattle.std.proofs.lemmas.List.{map-append}
use Rattle.std.specs.Prelude.{◌==◌, Result, Ok, Err, OnErr}
use Rattle.std.specs.Str.{bytes_eq}
use Rattle.hp_obc.specs.declared.command.Cmd as code
use Rattle.hp_obc.specs.CommandView.{cmd_seen}
use Rattle.hp_obc.specs.Commands.{Cmds, Cmd, done, and_then, case_of, more_arms, cmds_of, arms_of}
use Rattle.hp_obc.specs.Form.{arm_count}
use Rattle.hp_fuse.specs.Fusing.{is_steady, ask_the_same, is_joinable, followed, paired, as_one, led_by, joined, in_arms, within, all_within}
use Rattle.hp_fuse.specs.Likeness.{AreAlike, ArmsAreAlike}
use Rattle.hp_fuse.specs.Joining.{paired_to, left_to, ArePartlyOne}
use Rattle.hp_fuse.proofs.PairLaws.{followed-done, count-listed}
use Rattle.hp_fuse.proofs.LikeLaws.{alike-refl, alike-trans, alike-cons, alike-followed, arms-refl, alike-arms}
use Rattle.hp_fuse.proofs.JoinLaws.{both-right, same_number, one_alike, parts_alike}
use Rattle.hp_fuse.proofs.LedLaws.{one-steady, led-one, led-apart, steady-first, steady-second, same-both}

-- ---- arms

pub asked : (x y : List ℕ) (arms others : List Cmds) (m n : ℕ) → true ≡ bytes_eq x y → length arms ≡ m → length others ≡ n → (m == n) ≡ ask_the_same (case_of x (arms_of arms)) (case_of y (arms_of others))
asked x y arms others m n h p q = λ i. h i && (sym p ∙ sym (count-listed arms)) i == (sym q ∙ sym (count-listed others)) i

pub as_many : (x y : List ℕ) (arms others : List Cmds) → ask_the_same (case_of x (arms_of arms)) (case_of y (arms_of others)) ≡ true → length arms ≡ length others
as_many x y arms others h =
    sym (count-listed arms) ∙ same_number (arm_count (arms_of arms)) (arm_count (arms_of others)) (both-right (bytes_eq x y) (arm_count (arms_of arms) == arm_count (arms_of others)) h) ∙ count-listed others

pair_step : (i : ℕ) (ls bs : List Cmds) (d e : Cmds) → i < length ls → length ls ≡ length bs → set (paired_to i ls bs) i (followed (get_or (paired_to i ls bs) i d) (get_or (left_to i bs) i e)) ≡ paired_to (suc i) ls bs
pair_step i [] bs d e h n = absurd (omega (arith, h))
pair_step i (a ∷ ls) [] d e h n = absurd (omega (arith, n))
pair_step zero (a ∷ ls) (b ∷ bs) d e h n = refl
pair_step (suc i) (a ∷ ls) (b ∷ bs) d e h n = ap (λ z. followed a b ∷ z) (pair_step i ls bs d e (omega (arith, h)) (omega (arith, n)))

left_step : (i : ℕ) (bs : List Cmds) → i < length bs → set (left_to i bs) i done ≡ left_to (suc i) bs
left_step i [] h = absurd (omega (arith, h))
left_step zero (b ∷ bs) h = refl
left_step (suc i) (b ∷ bs) h = ap (λ z. done ∷ z) (left_step i bs (omega (arith, h)))

one_more : (i : ℕ) → i + 1 ≡ suc i
one_more i = omega arith

pub pair_next : (i : ℕ) (ls bs xs ys : List Cmds) (a d e : Cmds) → xs ≡ paired_to i ls bs → ys ≡ left_to i bs → a ≡ followed (get_or xs i d) (get_or ys i e) → i < length ls → length ls ≡ length bs
    → set xs i a ≡ paired_to (i + 1) ls bs
pair_next i ls bs xs ys a d e p q h l n =
    (λ k. set (p k) i ((h ∙ (λ m. followed (get_or (p m) i d) (get_or (q m) i e))) k)) ∙ pair_step i ls bs d e l n ∙ ap (λ z. paired_to z ls bs) (sym (one_more i))

pub left_next : (i : ℕ) (bs ys : List Cmds) (b : Cmds) → ys ≡ left_to i bs → b ≡ done → i < length bs → set ys i b ≡ left_to (i + 1) bs
left_next i bs ys b q h l = (λ k. set (q k) i (h k)) ∙ left_step i bs l ∙ ap (λ z. left_to z bs) (sym (one_more i))

paired_end : (n : ℕ) (ls bs : List Cmds) → length ls ≤ n → length ls ≡ length bs → arms_of (paired_to n ls bs) ≡ paired (arms_of ls) (arms_of bs)
paired_end zero [] bs h e = refl
paired_end zero (a ∷ ls) bs h e = absurd (omega (arith, h))
paired_end (suc n) [] bs h e = refl
paired_end (suc n) (a ∷ ls) [] h e = refl
paired_end (suc n) (a ∷ ls) (b ∷ bs) h e = ap (λ z. more_arms (followed a b) z) (paired_end n ls bs (omega (arith, h)) (omega (arith, e)))

pub paired_ended : (n : ℕ) (ls bs xs : List Cmds) → xs ≡ paired_to n ls bs → length ls ≤ n → length ls ≡ length bs → arms_of xs ≡ paired (arms_of ls) (arms_of bs)
paired_ended n ls bs xs p h e = ap arms_of p ∙ paired_end n ls bs h e

-- ---- commands in a row

behind_listed : (xs ys : List Cmd) → cmds_of (xs ++ ys) ≡ followed (cmds_of xs) (cmds_of ys)
behind_listed [] ys = refl
behind_listed (x ∷ xs) ys = ap (and_then x) (behind_listed xs ys)

pub behind-seen : (xs ys : List code.Cmd) → cmds_of (map cmd_seen (xs ++ ys)) ≡ followed (cmds_of (map cmd_seen xs)) (cmds_of (map cmd_seen ys))
behind-seen xs ys = ap cmds_of (map-append cmd_seen xs ys) ∙ behind_listed (map cmd_seen xs) (map cmd_seen ys)

more_behind : (xs : List Cmd) (c : Cmd) (cs : Cmds) → followed (cmds_of (xs ++ c ∷ [])) cs ≡ followed (cmds_of xs) (and_then c cs)
more_behind [] c cs = refl
more_behind (x ∷ xs) c cs = ap (and_then x) (more_behind xs c cs)

pub one_pushed : (xs ys : List code.Cmd) (a : code.Cmd) → ys ≡ xs ++ a ∷ [] → map cmd_seen ys ≡ map cmd_seen xs ++ cmd_seen a ∷ []
one_pushed xs ys a h = ap (map cmd_seen) h ∙ map-append cmd_seen xs (a ∷ [])

pub seen_ahead : (xs ys : List code.Cmd) (a : code.Cmd) → xs ≡ a ∷ ys → map cmd_seen xs ≡ cmd_seen a ∷ map cmd_seen ys
seen_ahead xs ys a h = ap (map cmd_seen) h

-- two cases become one
pub steady_next : (last next new : Cmd) (b : Bool) → is_joinable last next ≡ true → b ≡ is_steady last → new ≡ as_one last next → b ≡ is_steady new
steady_next last next new b j h e = h ∙ steady-first last next j ∙ sym (one-steady last next j) ∙ ap is_steady (sym e)

pub joined_one : (whole front : Cmds) (last next new : Cmd) (rest others : List Cmd) → followed front (led_by last (joined (cmds_of rest))) ≡ whole → rest ≡ next ∷ others → is_joinable last next ≡ true → new ≡ as_one last next
    → followed front (led_by new (joined (cmds_of others))) ≡ whole
joined_one whole front last next new rest others h e j n =
    ap (λ z. followed front (led_by z (joined (cmds_of others)))) n
    ∙ ap (followed front) (sym (led-one last next (joined (cmds_of others)) j))
    ∙ ap (λ z. followed front (led_by last (joined (cmds_of z)))) (sym e) ∙ h

pub alike_one : (whole front : Cmds) (last next new : Cmd) (rest others : List Cmd) → AreAlike whole (followed front (and_then last (cmds_of rest))) → rest ≡ next ∷ others → is_joinable last next ≡ true → new ≡ as_one last next
    → AreAlike whole (followed front (and_then new (cmds_of others)))
alike_one whole front last next new rest others h e j n =
    subst (λ z. AreAlike whole (followed front (and_then z (cmds_of others)))) (sym n)
    (alike-trans whole (followed front (and_then last (and_then next (cmds_of others)))) (followed front (and_then (as_one last next) (cmds_of others)))
    (subst (λ z. AreAlike whole (followed front (and_then last (cmds_of z)))) e h)
    (alike-followed front (and_then last (and_then next (cmds_of others))) (and_then (as_one last next) (cmds_of others))
    (one_alike last next (cmds_of others) (steady-first last next j) (same-both last next j))))

-- two commands stay apart
pub joined_apart : (whole : Cmds) (front new : List Cmd) (last next : Cmd) (rest others : List Cmd) → followed (cmds_of front) (led_by last (joined (cmds_of rest))) ≡ whole → rest ≡ next ∷ others → is_joinable last next ≡ false
    → new ≡ front ++ last ∷ [] → followed (cmds_of new) (led_by next (joined (cmds_of others))) ≡ whole
joined_apart whole front new last next rest others h e j n =
    ap (λ z. followed (cmds_of z) (led_by next (joined (cmds_of others)))) n
    ∙ more_behind front last (led_by next (joined (cmds_of others)))
    ∙ ap (followed (cmds_of front)) (sym (led-apart last next (joined (cmds_of others)) j))
    ∙ ap (λ z. followed (cmds_of front) (led_by last (joined (cmds_of z)))) (sym e) ∙ h

pub alike_apart : (whole : Cmds) (front new : List Cmd) (last next : Cmd) (rest others : List Cmd) → AreAlike whole (followed (cmds_of front) (and_then last (cmds_of rest))) → rest ≡ next ∷ others → new ≡ front ++ last ∷ []
    → AreAlike whole (followed (cmds_of new) (and_then next (cmds_of others)))
alike_apart whole front new last next rest others h e n =
    subst (AreAlike whole) (ap (λ z. followed (cmds_of front) (and_then last (cmds_of z))) e ∙ sym (more_behind front last (and_then next (cmds_of others))) ∙ ap (λ z. followed (cmds_of z) (and_then next (cmds_of others))) (sym n)) h

-- memory ends
pub alike_parts : (whole : Cmds) (front one two new : List Cmd) (last next last_new next_new : Cmd) (rest others : List Cmd) → AreAlike whole (followed (cmds_of front) (and_then last (cmds_of rest))) → rest ≡ next ∷ others → is_joinable last next ≡ true
    → ArePartlyOne last next last_new next_new → one ≡ front ++ last_new ∷ [] → two ≡ one ++ next_new ∷ [] → new ≡ two ++ others → AreAlike whole (cmds_of new)
alike_parts whole front one two new last next last_new next_new rest others h e j p a b c =
    subst (AreAlike whole)
    (sym (more_behind front last_new (and_then next_new (cmds_of others))) ∙ ap (λ z. followed (cmds_of z) (and_then next_new (cmds_of others))) (sym a)
    ∙ sym (more_behind one next_new (cmds_of others)) ∙ ap (λ z. followed (cmds_of z) (cmds_of others)) (sym b) ∙ sym (behind_listed two others) ∙ ap cmds_of (sym c))
    (alike-trans whole (followed (cmds_of front) (and_then last (and_then next (cmds_of others)))) (followed (cmds_of front) (and_then last_new (and_then next_new (cmds_of others))))
    (subst (λ z. AreAlike whole (followed (cmds_of front) (and_then last (cmds_of z)))) e h)
    (alike-followed (cmds_of front) (and_then last (and_then next (cmds_of others))) (and_then last_new (and_then next_new (cmds_of others)))
    (parts_alike last next last_new next_new (cmds_of others) (steady-first last next j) (steady-second last next j) (same-both last next j) p)))

-- none is left
pub joined_end : (whole : Cmds) (front new : List Cmd) (last : Cmd) (rest : List Cmd) → followed (cmds_of front) (led_by last (joined (cmds_of rest))) ≡ whole → rest ≡ [] → new ≡ front ++ last ∷ [] → cmds_of new ≡ whole
joined_end whole front new last rest h e n =
    ap cmds_of n ∙ sym (followed-done (cmds_of (front ++ last ∷ []))) ∙ more_behind front last done ∙ ap (λ z. followed (cmds_of front) (led_by last (joined (cmds_of z)))) (sym e) ∙ h

-- ---- lists of which so many are done

module _ {A : Type 0} (f : A → A) where
  abbrev pub mapped_to : ℕ → List A → List A
  mapped_to zero xs = xs
  mapped_to (suc n) [] = []
  mapped_to (suc n) (x ∷ xs) = f x ∷ mapped_to n xs

  mapped_step : (n : ℕ) (xs : List A) (d : A) → n < length xs → set (mapped_to n xs) n (f (get_or (mapped_to n xs) n d)) ≡ mapped_to (suc n) xs
  mapped_step n [] d h = absurd (omega (arith, h))
  mapped_step zero (x ∷ xs) d h = refl
  mapped_step (suc n) (x ∷ xs) d h = ap (λ z. f x ∷ z) (mapped_step n xs d (omega (arith, h)))

  mapped_all : (n : ℕ) (xs : List A) → length xs ≤ n → mapped_to n xs ≡ map f xs
  mapped_all zero [] h = refl
  mapped_all zero (x ∷ xs) h = absurd (omega (arith, h))
  mapped_all (suc n) [] h = refl
  mapped_all (suc n) (x ∷ xs) h = ap (λ z. f x ∷ z) (mapped_all n xs (omega (arith, h)))

  pub mapped_next : (n : ℕ) (xs ys : List A) (a d : A) → ys ≡ mapped_to n xs → a ≡ f (get_or ys n d) → n < length xs → set ys n a ≡ mapped_to (n + 1) xs
  mapped_next n xs ys a d p h l = (λ k. set (p k) n ((h ∙ ap (λ z. f (get_or z n d)) p) k)) ∙ mapped_step n xs d l ∙ ap (λ z. mapped_to z xs) (sym (one_more n))

  pub mapped_end : (n : ℕ) (xs ys : List A) → ys ≡ mapped_to n xs → length xs ≤ n → ys ≡ map f xs
  mapped_end n xs ys p h = p ∙ mapped_all n xs h

pub set-seen : (xs : List code.Cmd) (n : ℕ) (a : code.Cmd) → map cmd_seen (set xs n a) ≡ set (map cmd_seen xs) n (cmd_seen a)
set-seen [] n a = refl
set-seen (x ∷ xs) zero a = refl
set-seen (x ∷ xs) (suc n) a = ap (λ z. cmd_seen x ∷ z) (set-seen xs n a)

pub get-seen : (xs : List code.Cmd) (n : ℕ) (d : code.Cmd) → cmd_seen (get_or xs n d) ≡ get_or (map cmd_seen xs) n (cmd_seen d)
get-seen [] n d = refl
get-seen (x ∷ xs) zero d = refl
get-seen (x ∷ xs) (suc n) d = get-seen xs n d

pub all_listed : (g : Cmds → Cmds) (xs : List Cmd) → cmds_of (map (within g) xs) ≡ all_within g (cmds_of xs)
all_listed g [] = refl
all_listed g (x ∷ xs) = ap (λ z. and_then (within g x) z) (all_listed g xs)

pub arms_listed : (g : Cmds → Cmds) (xs : List Cmds) → arms_of (map g xs) ≡ in_arms g (arms_of xs)
arms_listed g [] = refl
arms_listed g (x ∷ xs) = ap (λ z. more_arms (g x) z) (arms_listed g xs)

module _ (f : Cmd → Cmd) (alike : (c : Cmd) → AreAlike (and_then c done) (and_then (f c) done)) where
  pub alike_so_far : (n : ℕ) (xs : List Cmd) (a d : Cmd) → n < length xs → AreAlike (and_then (get_or (mapped_to f n xs) n d) done) (and_then a done) → AreAlike (cmds_of xs) (cmds_of (set (mapped_to f n xs) n a))
  alike_so_far n [] a d h p = absurd (omega (arith, h))
  alike_so_far zero (x ∷ xs) a d h p = alike-cons x a (cmds_of xs) (cmds_of xs) p (alike-refl (cmds_of xs))
  alike_so_far (suc n) (x ∷ xs) a d h p = alike-cons x (f x) (cmds_of xs) (cmds_of (set (mapped_to f n xs) n a)) (alike x) (alike_so_far n xs a d (omega (arith, h)) p)

module _ (f : Cmds → Cmds) (alike : (cs : Cmds) → AreAlike cs (f cs)) where
  pub arms_so_far : (n : ℕ) (xs : List Cmds) (a d : Cmds) → n < length xs → AreAlike (get_or (mapped_to f n xs) n d) a → ArmsAreAlike (arms_of xs) (arms_of (set (mapped_to f n xs) n a))
  arms_so_far n [] a d h p = absurd (omega (arith, h))
  arms_so_far zero (x ∷ xs) a d h p = alike-arms x a (arms_of xs) (arms_of xs) p (arms-refl (arms_of xs))
  arms_so_far (suc n) (x ∷ xs) a d h p = alike-arms x (f x) (arms_of xs) (arms_of (set (mapped_to f n xs) n a)) (alike x) (arms_so_far n xs a d (omega (arith, h)) p)

-- ---- results

pub on_err : {A E : Type 0} {P Q : Type 0} (r : Result A E) → (P → Q) → OnErr r P → OnErr r Q
on_err (Ok a) f p = tt
on_err (Err e) f p = f p

pub in_err : {A E : Type 0} {P : Type 0} (r : Result A E) → P → OnErr r P
in_err (Ok a) p = tt
in_err (Err e) p = p
