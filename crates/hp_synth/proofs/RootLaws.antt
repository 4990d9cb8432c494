-- References under keys of a slab, which grows, and whose table is swept.
use Rattle.std.proofs.Common.{◌≡◌, ◌≢◌, ◌⊎◌, inl, inr, ℕ, zero, suc, ◌<◌, true, List, [], ◌∷◌, ◌++◌, length, get_or, Option, Some, None, is_some, IsSome, refl, sym, ap, subst, ◌∙◌, arith, true≢false}
use Rattle.std.proofs.lemmas.Bool.{cases_order}
use Rattle.std.proofs.lemmas.List.Elements.{All-nil, All-cons, All-head, All-tail}
use Rattle.slab.specs.Slab.{Slab, get, Updates}
use Rattle.hp_diagram.specs.declared.reference.Ref.{Ref}
use Rattle.hp_diagram.specs.Diagrams.{Diagrams, Has}
use Rattle.hp_quant.specs.Sweeps.{IsSwept, HasRoots, Reaches}
use Rattle.hp_synth.specs.Building.{HasEach}
use Rattle.hp_synth.specs.Kept.{AllMean, ReachedBy, AreSwept}
use Rattle.hp_synth.specs.Rooted.{AreAt, IsAmong, AreRooted}
use Rattle.hp_synth.specs.Valued.{Fun}

some-there : {A : Type 0} (o : Option A) → is_some o ≡ true → (a : A) × (o ≡ Some a)
some-there (Some a) h = (a, refl)
some-there None h = absurd (true≢false (sym h))

some-same : (x y : Ref) → Some x ≡ Some y → x ≡ y
some-same x y h = ap (λ (o : Option Ref). elim o [ None ↦ x | Some z ↦ z ]) h

none-some : (r : Ref) → None ≡ Some r → ⊥
none-some r e = true≢false (sym (ap (λ (o : Option Ref). is_some o) e))

same-or-not : (m n : ℕ) → (m ≡ n) ⊎ (m ≢ n)
same-or-not m n = elim (cases_order m n) [
  | inl e ↦ inl e
  | inr (inl l) ↦ inr (λ e. absurd (omega (arith, e, l)))
  | inr (inr l) ↦ inr (λ e. absurd (omega (arith, e, l)))
]

-- ---- one reference more

module _ (before after : Slab Ref) (new : ℕ) (x : Ref) (up : Updates before after new (Some x)) (vacant : get before new ≡ None) where
  at-old : (key : ℕ) (r : Ref) → get before key ≡ Some r → get after key ≡ Some r
  at-old key r e = up.others key (λ same. none-some r (sym vacant ∙ ap (get before) (sym same) ∙ e)) ∙ e

  at-more : (keys : List ℕ) (refs : List Ref) → AreAt before keys refs → AreAt after (keys ++ new ∷ []) (refs ++ x ∷ [])
  at-more [] [] h = (up.changed, tt)
  at-more [] (r ∷ refs) h = absurd h
  at-more (k ∷ keys) [] h = absurd h
  at-more (k ∷ keys) (r ∷ refs) h = (at-old k r h.0, at-more keys refs h.1)

  among-more : (key : ℕ) (keys : List ℕ) → IsAmong key keys → IsAmong key (keys ++ new ∷ [])
  among-more key [] h = absurd h
  among-more key (k ∷ keys) (inl e) = inl e
  among-more key (k ∷ keys) (inr h) = inr (among-more key keys h)

  among-last : (key : ℕ) (keys : List ℕ) → new ≡ key → IsAmong key (keys ++ new ∷ [])
  among-last key [] e = inl e
  among-last key (k ∷ keys) e = inr (among-last key keys e)

  pub rooted-more : (keys : List ℕ) (refs : List Ref) → AreRooted before keys refs → AreRooted after (keys ++ new ∷ []) (refs ++ x ∷ [])
  rooted-more keys refs h = record {
    at = at-more keys refs h.at;
    only = λ key r e. found key r e (same-or-not new key);
  }
    where
      found : (key : ℕ) (r : Ref) → get after key ≡ Some r → (new ≡ key) ⊎ (new ≢ key) → IsAmong key (keys ++ new ∷ [])
      found key r e (inl same) = among-last key keys same
      found key r e (inr other) = among-more key keys (h.only key r (sym (up.others key (λ s. other (sym s))) ∙ e))

pub rooted-none : (slab : Slab Ref) → ((key : ℕ) → get slab key ≡ None) → AreRooted slab [] []
rooted-none slab h = record { at = tt; only = λ key r e. absurd (none-some r (sym (h key) ∙ e)) }

-- ---- a table that has them

has-at : (t : Diagrams) (slab : Slab Ref) (keys : List ℕ) (refs : List Ref) → AreAt slab keys refs → HasEach t refs → (key : ℕ) (r : Ref) → IsAmong key keys → get slab key ≡ Some r → Has t r
has-at t slab [] refs h has key r a e = absurd a
has-at t slab (k ∷ keys) [] h has key r a e = absurd h
has-at t slab (k ∷ keys) (q ∷ refs) h has key r (inl same) e =
    subst (Has t) (some-same q r (sym h.0 ∙ ap (get slab) same ∙ e)) (All-head (Has t) q refs has)
has-at t slab (k ∷ keys) (q ∷ refs) h has key r (inr a) e = has-at t slab keys refs h.1 (All-tail (Has t) q refs has) key r a e

pub has-roots : (t : Diagrams) (slab : Slab Ref) (keys : List ℕ) (refs : List Ref) → AreRooted slab keys refs → HasEach t refs → HasRoots t slab
has-roots t slab keys refs h has key r e = has-at t slab keys refs h.at has key r (h.only key r e) e

-- ---- and is swept

module _ (old new : Diagrams) (before after : Slab Ref) (s : IsSwept old new before after) where
  pub keys-kept : (keys : List ℕ) (refs : List Ref) → AreAt before keys refs → (i : ℕ) → i < length keys → IsSome (get after (get_or keys i 0))
  keys-kept [] refs h i l = absurd (omega (arith, l))
  keys-kept (k ∷ keys) [] h i l = absurd h
  keys-kept (k ∷ keys) (r ∷ refs) h zero l = s.keys k ∙ ap (λ (o : Option Ref). is_some o) h.0
  keys-kept (k ∷ keys) (r ∷ refs) h (suc i) l = keys-kept keys refs h.1 i (omega (arith, l))

  functions : (keys : List ℕ) (refs news : List Ref) → AreAt before keys refs → AreAt after keys news → (fs : List Fun) → AllMean old fs refs → AllMean new fs news
  functions [] [] [] b a [] m = tt
  functions [] [] [] b a (f ∷ fs) m = absurd m
  functions [] [] (n ∷ news) b a fs m = absurd a
  functions [] (r ∷ refs) news b a fs m = absurd b
  functions (k ∷ keys) [] news b a fs m = absurd b
  functions (k ∷ keys) (r ∷ refs) [] b a fs m = absurd a
  functions (k ∷ keys) (r ∷ refs) (n ∷ news) b a [] m = absurd m
  functions (k ∷ keys) (r ∷ refs) (n ∷ news) b a (f ∷ fs) m =
      let copy = s.roots k r n b.0 a.0 in
      (record { has = copy.has; value = λ v. copy.value v ∙ (m.0).value v }, functions keys refs news b.1 a.1 fs m.1)

  has-news : (keys : List ℕ) (refs news : List Ref) → AreAt before keys refs → AreAt after keys news → HasEach new news
  has-news [] refs [] b a = All-nil (Has new)
  has-news [] refs (n ∷ news) b a = absurd a
  has-news (k ∷ keys) [] news b a = absurd b
  has-news (k ∷ keys) (r ∷ refs) [] b a = absurd a
  has-news (k ∷ keys) (r ∷ refs) (n ∷ news) b a = All-cons (Has new) n news (s.roots k r n b.0 a.0).has (has-news keys refs news b.1 a.1)

  len-news : (keys : List ℕ) (refs news : List Ref) → AreAt before keys refs → AreAt after keys news → length news ≡ length refs
  len-news [] [] [] b a = refl
  len-news [] [] (n ∷ news) b a = absurd a
  len-news [] (r ∷ refs) news b a = absurd b
  len-news (k ∷ keys) [] news b a = absurd b
  len-news (k ∷ keys) (r ∷ refs) [] b a = absurd a
  len-news (k ∷ keys) (r ∷ refs) (n ∷ news) b a = ap suc (len-news keys refs news b.1 a.1)

  reached-at : (keys : List ℕ) (news : List Ref) → AreAt after keys news → (key : ℕ) (r q : Ref) → IsAmong key keys → get after key ≡ Some r → Reaches new r q → ReachedBy new news q
  reached-at [] news a key r q among e h = absurd among
  reached-at (k ∷ keys) [] a key r q among e h = absurd a
  reached-at (k ∷ keys) (n ∷ news) a key r q (inl same) e h = inl (subst (λ (z : Ref). Reaches new z q) (some-same r n (sym e ∙ ap (get after) (sym same) ∙ a.0)) h)
  reached-at (k ∷ keys) (n ∷ news) a key r q (inr among) e h = inr (reached-at keys news a.1 key r q among e h)

  pub swept-list : (keys : List ℕ) (refs news : List Ref) → AreRooted before keys refs → AreAt after keys news → AreSwept old new refs news
  swept-list keys refs news b a = record {
    vars = s.vars;
    len = len-news keys refs news b.at a;
    has = has-news keys refs news b.at a;
    functions = functions keys refs news b.at a;
    only = λ q h. elim (s.reached q h) [
      | inl low ↦ inl low
      | inr from ↦
          let there = some-there (get before from.0) (sym (s.keys from.0) ∙ ap (λ (o : Option Ref). is_some o) from.2) in
          inr (reached-at keys news a from.0 from.1 q (b.only from.0 there.0 there.1) from.2 from.3)
    ];
  }

-- ---- reading them back

pub at-next : (slab : Slab Ref) (keys : List ℕ) (refs : List Ref) (k : ℕ) (r : Ref) → AreAt slab keys refs → get slab k ≡ Some r → AreAt slab (keys ++ k ∷ []) (refs ++ r ∷ [])
at-next slab [] [] k r h e = (e, tt)
at-next slab [] (q ∷ refs) k r h e = absurd h
at-next slab (j ∷ keys) [] k r h e = absurd h
at-next slab (j ∷ keys) (q ∷ refs) k r h e = (h.0, at-next slab keys refs k r h.1 e)
