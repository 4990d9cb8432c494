-- Lists, commands and machines that are the same.
use Rattle.std.proofs.Common.{◌≡◌, ℕ, zero, suc, ◌<◌, Bool, true, false, List, [], ◌∷◌, length, map, get_or, refl, sym, ap, ◌∙◌, arith}
use Rattle.std.specs.Bool.{Decides}
use Rattle.std.proofs.lemmas.List.{length-map}
use Rattle.hp_obc.specs.Commands as tree
use Rattle.hp_obc.specs.Commands.{Cmds, Arms, done, and_then, no_arm, more_arms, cmds_of, arms_of}

module _ {A : Type 0} where
  head_same : (x y : A) (xs ys : List A) → ◌≡◌ {A = List A} (x ∷ xs) (y ∷ ys) → x ≡ y
  head_same x y xs ys e = cc

  tail_same : (x y : A) (xs ys : List A) → ◌≡◌ {A = List A} (x ∷ xs) (y ∷ ys) → xs ≡ ys
  tail_same x y xs ys e = cc

module _ {C A : Type 0} where
  -- lists that are the same have the same elements
  pub same_at : (f : C → A) (xs ys : List C) (i : ℕ) (x y : C) → i < length xs → i < length ys → x ≡ get_or xs i x → y ≡ get_or ys i y → map f xs ≡ map f ys → f x ≡ f y
  same_at f [] ys i x y h g a b e = absurd (omega arith)
  same_at f (z ∷ xs) [] i x y h g a b e = absurd (omega arith)
  same_at f (z ∷ xs) (w ∷ ys) zero x y h g a b e = ap f a ∙ head_same (f z) (f w) (map f xs) (map f ys) e ∙ sym (ap f b)
  same_at f (z ∷ xs) (w ∷ ys) (suc i) x y h g a b e = same_at f xs ys i x y (omega arith) (omega arith) a b (tail_same (f z) (f w) (map f xs) (map f ys) e)

  pub as_long : (f : C → A) (xs ys : List C) → map f xs ≡ map f ys → length xs ≡ length ys
  as_long f xs ys e = sym (length-map xs f) ∙ ap length e ∙ length-map ys f

-- the lists of commands and of arms
list_of_cmds : Cmds → List tree.Cmd
list_of_cmds done = []
list_of_cmds (and_then c cs) = c ∷ list_of_cmds cs

list_of_arms : Arms → List Cmds
list_of_arms no_arm = []
list_of_arms (more_arms cs arms) = cs ∷ list_of_arms arms

cmds_back : (cs : List tree.Cmd) → list_of_cmds (cmds_of cs) ≡ cs
unfolding list_of_cmds
cmds_back [] = refl
cmds_back (c ∷ cs) = ap (λ rest. c ∷ rest) (cmds_back cs)

arms_back : (arms : List Cmds) → list_of_arms (arms_of arms) ≡ arms
unfolding list_of_arms
arms_back [] = refl
arms_back (cs ∷ arms) = ap (λ rest. cs ∷ rest) (arms_back arms)

pub cmds_one : (cs ds : List tree.Cmd) → cmds_of cs ≡ cmds_of ds → cs ≡ ds
cmds_one cs ds e = sym (cmds_back cs) ∙ ap list_of_cmds e ∙ cmds_back ds

pub arms_one : (arms others : List Cmds) → arms_of arms ≡ arms_of others → arms ≡ others
arms_one arms others e = sym (arms_back arms) ∙ ap list_of_arms e ∙ arms_back others

-- what is not so is not found to be so
pub refused : (found : Bool) (P : Type 0) → Decides found P → found ≡ false → P → ⊥
refused found P decides wrong p = let yes : found ≡ true = decides.1 p in absurd (cc)

-- what is false where a fact does not hold
pub none_so : (P : Type 0) → (P → ⊥) → Decides false P
none_so P not = ((λ e. absurd cc), (λ p. absurd (not p)))
