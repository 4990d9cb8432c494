-- What is kept in an array: of each variable that is bound the term, as it was when it was bound. Reading it through gives what is known.
use Rattle.std.proofs.Common.{◌≡◌, ℕ, suc, ◌+◌, ◌<◌, List, [], ◌++◌, refl, sym, ap, ◌∙◌, subst, arith, append_assoc}
use Rattle.std.proofs.lemmas.List.{append-nil, append_cancel_left}
use Rattle.std.specs.Prelude.{⊤, Bool, true, false, if◌then◌else◌, Option, None, Some}
use Rattle.std.specs.Bool.{Decides}
use Rattle.hp_meaning.specs.Clocking.Terms.{Term, Known, put_head, put, nothing_known, and_then, bind}
use Rattle.hp_meaning.proofs.ClockingLemmas.Unify.{decided}

module _ (V S : Type 0) where
  abbrev pub Links : Type 0
  Links = V → Option (Term V S)

  -- what is known of a variable, by its link
  abbrev pub through : Known V S → V → Option (Term V S) → Term V S
  through known v None = ([], Some v)
  through known v (Some t) = put known t

  pub record Linked (links : Links) (known : Known V S) : Type 0 where
    pub follows : (v : V) → known v ≡ through known v (links v)
    pub settled : (v : V) → put known (known v) ≡ known v

  pub nothing_linked : Linked (λ v. None) nothing_known
  nothing_linked = record { follows = λ v. refl; settled = λ v. refl }

  abbrev term : List S → Option V → Term V S
  term ss h = (ss, h)

  same_term : (ss ts : List S) (h k : Option V) → ss ≡ ts → h ≡ k → term ss h ≡ term ts k
  same_term ss ts h k e f = λ z. (e z, f z)

  pub put_put : (known more : Known V S) (t : Term V S) → put more (put known t) ≡ put (and_then known more) t
  put_put known more t = heads t.0 t.1
    where
      heads : (ss : List S) (h : Option V) → put more (put known (ss, h)) ≡ put (and_then known more) (ss, h)
      heads ss None = same_term (ss ++ [] ++ []) (ss ++ []) None None (append-nil (ss ++ [])) refl
      heads ss (Some v) =
          same_term (ss ++ (known v).0 ++ (put_head more (known v).1).0) (ss ++ ((known v).0 ++ (put_head more (known v).1).0))
          (put_head more (known v).1).1 (put_head more (known v).1).1 (append_assoc ss (known v).0 (put_head more (known v).1).0) refl

  -- the head of what is known stays open
  open_head : (known : Known V S) (ss : List S) (x : V) → put known (term ss (Some x)) ≡ term ss (Some x) → known x ≡ ([], Some x)
  open_head known ss x e =
      same_term (known x).0 [] (known x).1 (Some x)
      (append_cancel_left ss (known x).0 [] (ap (λ z. z.0) e ∙ sym (append-nil ss))) (ap (λ z. z.1) e)

  -- a variable that is not bound now
  other : (links : Links) (known more : Known V S) → Linked links known → (v : V) (o : Option (Term V S)) → links v ≡ o → more v ≡ ([], Some v) → and_then known more v ≡ through (and_then known more) v o
  other links known more l v None e f = ap (put more) (l.follows v ∙ ap (through known v) e) ∙ f
  other links known more l v (Some t) e f = ap (put more) (l.follows v ∙ ap (through known v) e) ∙ put_put known more t

  settle : (known more : Known V S) (ss : List S) (h : Option V) → put known (ss, h) ≡ (ss, h) → ((x : V) → known x ≡ ([], Some x) → put (and_then known more) (more x) ≡ more x) → put (and_then known more) (put more (ss, h)) ≡ put more (ss, h)
  settle known more ss None e f = same_term (ss ++ [] ++ []) (ss ++ []) None None (append-nil (ss ++ [])) refl
  settle known more ss (Some x) e f =
      let both : Known V S = and_then known more in
      let g = f x (open_head known ss x e) in
      same_term (ss ++ (more x).0 ++ (put_head both (more x).1).0) (ss ++ (more x).0) (put_head both (more x).1).1 (more x).1
      (append_assoc ss (more x).0 (put_head both (more x).1).0 ∙ ap (λ z. ss ++ z.0) g) (ap (λ z. z.1) g)

  pub settled_term : (links : Links) (known : Known V S) → Linked links known → (ss : List S) (h : Option V) → put known (put known (term ss h)) ≡ put known (term ss h)
  settled_term links known l ss None = same_term (ss ++ [] ++ []) (ss ++ []) None None (append-nil (ss ++ [])) refl
  settled_term links known l ss (Some x) =
      same_term (ss ++ (known x).0 ++ (put_head known (known x).1).0) (ss ++ (known x).0) (put_head known (known x).1).1 (known x).1
      (append_assoc ss (known x).0 (put_head known (known x).1).0 ∙ ap (λ z. ss ++ z.0) (l.settled x)) (ap (λ z. z.1) (l.settled x))

  module _ (same : V → V → Bool) (is_same : (v w : V) → Decides (same v w) (v ≡ w)) where
    abbrev pub NotHead : V → Option V → Type 0
    NotHead w None = ⊤
    NotHead w (Some x) = same w x ≡ false

    bind_at : (w x : V) (t : Term V S) → same w x ≡ false → bind same w t x ≡ ([], Some x)
    bind_at w x t e = ap (λ d. if d then t else ([], Some x)) e

    bind_same : (w : V) (t : Term V S) → bind same w t w ≡ t
    bind_same w t = ap (λ d. if d then t else ([], Some w)) ((is_same w w).1 refl)

    -- a term that does not stand on w stays as it is
    stays : (w : V) (t : Term V S) (ss : List S) (h : Option V) → NotHead w h → put (bind same w t) (ss, h) ≡ (ss, h)
    stays w t ss None n = same_term (ss ++ []) ss None None (append-nil ss) refl
    stays w t ss (Some x) n =
        ap (λ z. (ss ++ z.0, z.1)) (bind_at w x t n) ∙ same_term (ss ++ []) ss (Some x) (Some x) (append-nil ss) refl

    abbrev pub with_link : Links → V → Term V S → Links
    with_link links w t v = if same w v then Some t else links v

    -- An open variable is bound to a term, which may be put through later; what it is by now does not stand on the variable.
    pub bound_linked : (links : Links) (known : Known V S) → Linked links known → (w : V) → links w ≡ None → (t : Term V S) → NotHead w (put known t).1 → Linked (with_link links w t) (and_then known (bind same w (put known t)))
    bound_linked links known l w o t n =
        let now : Term V S = put known t in
        let more : Known V S = bind same w now in
        let both : Known V S = and_then known more in
        let open_w : known w ≡ ([], Some w) = l.follows w ∙ ap (through known w) o in
        let there : both w ≡ now = ap (put more) open_w ∙ bind_same w now in
        let still : put more now ≡ now = stays w now now.0 now.1 n in
        let fixed : put both now ≡ now = sym (put_put known more now) ∙ ap (put more) (settled_term links known l t.0 t.1) ∙ still in
        let heads : (x : V) → known x ≡ ([], Some x) → put both (more x) ≡ more x =
        λ x e. decided (same w x) (is_same w x)
        (λ d q. ap (λ z. put both (if z then now else ([], Some x))) d ∙ fixed ∙ sym (ap (λ z. if z then now else ([], Some x)) d))
        (λ d q. ap (λ z. put both (if z then now else ([], Some x))) d ∙ ap (put more) e) in
        record {
          follows = λ v. decided (same w v) (is_same w v)
              (λ d q. subst (λ z. both z ≡ through both z (with_link links w t z)) q
              (there ∙ sym still ∙ put_put known more t ∙ sym (ap (λ z. through both w (if z then Some t else links w)) ((is_same w w).1 refl))))
              (λ d q. other links known more l v (links v) refl (bind_at w v now d) ∙ sym (ap (λ z. through both v (if z then Some t else links v)) d));
          settled = λ v. settle known more (known v).0 (known v).1 (l.settled v) heads;
        }

    -- The link of a bound variable may be put through what is known.
    pub shortened : (links : Links) (known : Known V S) → Linked links known → (v : V) (t : Term V S) → links v ≡ Some t → Linked (with_link links v (known v)) known
    shortened links known l v t e =
        record {
          follows = λ w. decided (same v w) (is_same v w)
              (λ d q. subst (λ z. known z ≡ through known z (with_link links v (known v) z)) q
              (sym (l.settled v) ∙ sym (ap (λ z. through known v (if z then Some (known v) else links v)) ((is_same v v).1 refl))))
              (λ d q. l.follows w ∙ sym (ap (λ z. through known w (if z then Some (known v) else links w)) d));
          settled = l.settled;
        }

    -- The ends that are reached by links are those of what is known: a number that falls along links stays one.
    abbrev pub Falls : Links → (V → ℕ) → Type 0
    Falls links rank = (v x : V) (ss : List S) → links v ≡ Some (ss, Some x) → rank x < rank v

    some_same : {t u : Term V S} → Some t ≡ Some u → t ≡ u
    some_same {t} {u} e = ap (or_this t) e
      where
        or_this : Term V S → Option (Term V S) → Term V S
        or_this d None = d
        or_this d (Some k) = k

    abbrev is_head : V → Option V → Bool
    is_head w None = false
    is_head w (Some x) = same w x

    abbrev head_rank : (V → ℕ) → Option V → ℕ
    head_rank rank None = 0
    head_rank rank (Some x) = rank x

    -- all that stands on the variable that is bound rises
    abbrev pub raised : Known V S → V → ℕ → (V → ℕ) → V → ℕ
    raised known w by rank v = if is_head w (known v).1 then rank v + suc by else rank v

    raised_both : (d : Bool) (m n by : ℕ) → m < n → (if d then m + suc by else m) < (if d then n + suc by else n)
    raised_both true m n by h = omega (arith, h)
    raised_both false m n by h = h

    above : (m n : ℕ) → m < n + suc m
    above m n = omega arith

    not_head : (w : V) (h : Option V) → NotHead w h → is_head w h ≡ false
    not_head w None n = refl
    not_head w (Some x) n = n

    pub still_falls : (links : Links) (known : Known V S) → Linked links known → (rank : V → ℕ) → Falls links rank → (w : V) → links w ≡ None → (t : Term V S) → NotHead w (put known t).1 → Falls (with_link links w t) (raised known w (head_rank rank t.1) rank)
    still_falls links known l rank falls w o t n v x ss e =
        decided (same w v) (is_same w v)
        (λ d q.
        let e1 : t ≡ term ss (Some x) = some_same (ap (λ z. if z then Some t else links v) (sym d) ∙ e) in
        let head_x : (put known t).1 ≡ (known x).1 = ap (λ z. (put known z).1) e1 in
        let apart_x : is_head w (known x).1 ≡ false = ap (is_head w) (sym head_x) ∙ not_head w (put known t).1 n in
        let low : raised known w (head_rank rank t.1) rank x ≡ rank x = ap (λ z. if z then rank x + suc (head_rank rank t.1) else rank x) apart_x in
        let open_w : known w ≡ ([], Some w) = l.follows w ∙ ap (through known w) o in
        let high : raised known w (head_rank rank t.1) rank w ≡ rank w + suc (rank x) =
        ap (λ z. if is_head w z then rank w + suc (head_rank rank t.1) else rank w) (ap (λ z. z.1) open_w)
        ∙ ap (λ z. if z then rank w + suc (head_rank rank t.1) else rank w) ((is_same w w).1 refl)
        ∙ ap (λ z. rank w + suc (head_rank rank z.1)) e1 in
        subst (λ z. raised known w (head_rank rank t.1) rank x < raised known w (head_rank rank t.1) rank z) q
        (subst (λ z. z < raised known w (head_rank rank t.1) rank w) (sym low) (subst (λ z. rank x < z) (sym high) (above (rank x) (rank w)))))
        (λ d q.
        let e1 : links v ≡ Some (term ss (Some x)) = ap (λ z. if z then Some t else links v) (sym d) ∙ e in
        let heads : (known v).1 ≡ (known x).1 = ap (λ z. z.1) (l.follows v ∙ ap (through known v) e1) in
        subst (λ z. raised known w (head_rank rank t.1) rank x < (if is_head w z then rank v + suc (head_rank rank t.1) else rank v)) (sym heads)
        (raised_both (is_head w (known x).1) (rank x) (rank v) (head_rank rank t.1) (falls v x ss e1)))
