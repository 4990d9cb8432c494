-- Of what is first in a list there is one.
use Rattle.std.proofs.Common.{◌≡◌, Bool, true, false, ◌&&◌, ◌||◌, List, [], ◌∷◌, ◌++◌, ◌⊎◌, inl, inr, get_or, drop, refl, sym, ap, subst, ◌∙◌}
use Rattle.std.specs.List.{list_all, list_any}
use Rattle.hp_base.specs.declared.span.Span.{Span}
use Rattle.hp_base.specs.First.First.{IsFirst, is_before}
use Rattle.hp_tree.specs.Programs.{Node}
use Rattle.hp_tree.specs.declared.program.Item.{Item}
use Rattle.hp_tree.specs.declared.program.Item.TheVariants.{NodeItem}

-- ---- two ways to part a list

-- the first part of the second way is longer
pub record IsLonger {A : Type 0} (xs ys zs ws : List A) : Type 0 where
  pub next : A
  pub more : List A
  pub longer : zs ≡ xs ++ next ∷ more
  pub rest : ys ≡ next ∷ (more ++ ws)

abbrev pub Parting : {A : Type 0} → List A → List A → List A → List A → Type 0
Parting xs ys zs ws = ((xs ≡ zs) × (ys ≡ ws)) ⊎ IsLonger xs ys zs ws ⊎ IsLonger zs ws xs ys

one_more : {A : Type 0} (x z : A) (xs ys zs ws : List A) → x ≡ z → Parting xs ys zs ws → Parting (x ∷ xs) ys (z ∷ zs) ws
one_more x z xs ys zs ws e (inl (p, q)) = inl ((λ i. e i ∷ p i), q)
one_more x z xs ys zs ws e (inr (inl l)) = inr (inl (record { next = l.next; more = l.more; longer = λ i. sym e i ∷ l.longer i; rest = l.rest }))
one_more x z xs ys zs ws e (inr (inr l)) = inr (inr (record { next = l.next; more = l.more; longer = λ i. e i ∷ l.longer i; rest = l.rest }))

pub parting : {A : Type 0} (xs ys zs ws : List A) → xs ++ ys ≡ zs ++ ws → Parting xs ys zs ws
parting [] ys [] ws e = inl (refl, e)
parting [] ys (z ∷ zs) ws e = inr (inl (record { next = z; more = zs; longer = refl; rest = e }))
parting (x ∷ xs) ys [] ws e = inr (inr (record { next = x; more = xs; longer = refl; rest = sym e }))
parting (x ∷ xs) ys (z ∷ zs) ws e = one_more x z xs ys zs ws (ap (λ l. get_or l 0 x) e) (parting xs ys zs ws (ap (λ l. drop 1 l) e))

pub head_same : {A : Type 0} (x y : A) (xs ys : List A) → x ∷ xs ≡ y ∷ ys → x ≡ y
head_same x y xs ys e = ap (λ l. get_or l 0 x) e

pub tail_same : {A : Type 0} (x y : A) (xs ys : List A) → x ∷ xs ≡ y ∷ ys → xs ≡ ys
tail_same x y xs ys e = ap (λ l. drop 1 l) e

-- ---- the first by its place

and_first : (p q : Bool) → (p && q) ≡ true → p ≡ true
and_first true q h = refl
and_first false q h = absurd cc

and_second : (p q : Bool) → (p && q) ≡ true → q ≡ true
and_second true q h = h
and_second false q h = absurd cc

or_first : (p q : Bool) → (p || q) ≡ false → p ≡ false
or_first true q h = absurd cc
or_first false q h = refl

or_second : (p q : Bool) → (p || q) ≡ false → q ≡ false
or_second true q h = absurd cc
or_second false q h = h

module _ {T : Type 0} where
  all_at : (f : T → Bool) (xs : List T) (x : T) (ys : List T) → list_all f (xs ++ x ∷ ys) ≡ true → f x ≡ true
  all_at f [] x ys h = and_first (f x) (list_all f ys) h
  all_at f (z ∷ xs) x ys h = all_at f xs x ys (and_second (f z) (list_all f (xs ++ x ∷ ys)) h)

  any_at : (f : T → Bool) (xs : List T) (x : T) (ys : List T) → list_any f (xs ++ x ∷ ys) ≡ false → f x ≡ false
  any_at f [] x ys h = or_first (f x) (list_any f ys) h
  any_at f (z ∷ xs) x ys h = any_at f xs x ys (or_second (f z) (list_any f (xs ++ x ∷ ys)) h)

  module _ (place : T → Span) (all : List T) where
    -- where one stands earlier in the list, they are not both first
    not_later : (a b : T) (f : IsFirst place all a) (g : IsFirst place all b) → IsLonger f.earlier (a ∷ f.later) g.earlier (b ∷ g.later) → ⊥
    not_later a b f g l =
        let here : a ≡ l.next = head_same a l.next f.later (l.more ++ b ∷ g.later) l.rest in
        let later : f.later ≡ l.more ++ b ∷ g.later = tail_same a l.next f.later (l.more ++ b ∷ g.later) l.rest in
        let before : is_before (place b) (place l.next) ≡ true =
        all_at (λ other. is_before (place b) (place other)) f.earlier l.next l.more (ap (list_all (λ other. is_before (place b) (place other))) (sym l.longer) ∙ g.behind) in
        let not_before : is_before (place b) (place a) ≡ false =
        any_at (λ other. is_before (place other) (place a)) l.more b g.later (ap (list_any (λ other. is_before (place other) (place a))) (sym later) ∙ f.not_before) in
        let both : true ≡ false = sym before ∙ ap (λ z. is_before (place b) (place z)) (sym here) ∙ not_before in absurd cc

    first_by : (a b : T) (f : IsFirst place all a) (g : IsFirst place all b) → Parting f.earlier (a ∷ f.later) g.earlier (b ∷ g.later) → a ≡ b
    first_by a b f g (inl (p, q)) = head_same a b f.later g.later q
    first_by a b f g (inr (inl l)) = absurd (not_later a b f g l)
    first_by a b f g (inr (inr l)) = absurd (not_later b a g f l)

    pub first_same : (a b : T) → IsFirst place all a → IsFirst place all b → a ≡ b
    first_same a b f g = first_by a b f g (parting f.earlier (a ∷ f.later) g.earlier (b ∷ g.later) (sym f.split ∙ g.split))

-- ---- the first node of a program of which this is true, where items are clear if it is true of none of theirs

abbrev node_of : Node → Item → Node
node_of n (NodeItem m) = m
node_of n item = n

module _ (Clear : List Item → Type 0) (Is : Node → Type 0) (apart : (before : List Item) (n : Node) (behind : List Item) → Clear (before ++ NodeItem n ∷ behind) → Is n → ⊥) where
  node_by : (n m : Node) (before behind others later : List Item) → Clear before → Clear others → Is n → Is m → Parting before (NodeItem n ∷ behind) others (NodeItem m ∷ later) → n ≡ m
  node_by n m before behind others later f g h k (inl (p, q)) = ap (node_of n) (head_same (NodeItem n) (NodeItem m) behind later q)
  node_by n m before behind others later f g h k (inr (inl l)) =
      let here : NodeItem n ≡ l.next = head_same (NodeItem n) l.next behind (l.more ++ NodeItem m ∷ later) l.rest in
      absurd (apart before n l.more (subst Clear (l.longer ∙ ap (λ z. before ++ z ∷ l.more) (sym here)) g) h)
  node_by n m before behind others later f g h k (inr (inr l)) =
      let here : NodeItem m ≡ l.next = head_same (NodeItem m) l.next later (l.more ++ NodeItem n ∷ behind) l.rest in
      absurd (apart others m l.more (subst Clear (l.longer ∙ ap (λ z. others ++ z ∷ l.more) (sym here)) f) k)

  pub node_same : (items : List Item) (n m : Node) (before behind others later : List Item) → items ≡ before ++ NodeItem n ∷ behind → items ≡ others ++ NodeItem m ∷ later → Clear before → Clear others → Is n → Is m → n ≡ m
  node_same items n m before behind others later e f g h j k = node_by n m before behind others later g h j k (parting before (NodeItem n ∷ behind) others (NodeItem m ∷ later) (sym e ∙ f))
