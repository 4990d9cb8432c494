-- How the blocks of a control equation define a name, block by block.
use Rattle.std.proofs.Common.{◌≡◌, ℕ, zero, suc, ◌+◌, ◌-◌, ◌<◌, ◌≤◌, min, get_or, length, drop, map, List, [], ◌∷◌, sym, ap, ◌∙◌, arith}
use Rattle.std.proofs.Math.Numerals.{add-one}
use Rattle.hp_typing.specs.declared.uses.Use.{Use}
use Rattle.hp_typing.specs.declared.uses.Use.TheVariants.{Never}
use Rattle.hp_typing.specs.declared.uses.Uses.{Uses}
use Rattle.hp_typing.specs.Uses.{between, worse, worst, nowhere, pairwise, among, how}
use Rattle.hp_typing.proofs.FoundLaws.{drop-end}
use Rattle.hp_typing.proofs.UseCases.{worse-never, never-worse, worse-assoc, between-self, worse-two, worse-more}

head_law : (f g : List ℕ → Use) (fs : List (List ℕ → Use)) (x : List ℕ) → worse (between (f x) (g x)) (among (g ∷ fs) x) ≡ among (f ∷ g ∷ fs) x
head_law f g [] x = worse-two (f x) (g x)
head_law f g (h ∷ fs) x = worse-more (f x) (g x) (among (h ∷ fs) x)

-- one step from a block to the next
abbrev Step : List Uses → ℕ → Uses → Uses → Type 0
Step bs i a b = (f : List ℕ → Use) → worst (worst f (pairwise (how a) (how b))) (among (map how (drop (suc i) bs))) ≡ worst f (among (map how (drop i bs)))

step : (bs : List Uses) (i : ℕ) (a b : Uses) → i < length bs → a ≡ get_or bs i a → b ≡ get_or bs (min (suc i) (length bs - 1)) b → Step bs i a b
step [] i a b h p q f = absurd (omega arith)
step (c ∷ []) zero a b h p q f =
    let one : (x : List ℕ) → worse (worse (f x) (between (how c x) (how c x))) Never ≡ worse (f x) (how c x) =
    λ x. worse-never (worse (f x) (between (how c x) (how c x))) ∙ ap (worse (f x)) (between-self (how c x)) in
    let whole : worst (worst f (pairwise (how c) (how c))) nowhere ≡ worst f (how c) = λ j x. one x j in
    ap (λ d. worst (worst f (pairwise (how d) (how b))) nowhere) p ∙ ap (λ d. worst (worst f (pairwise (how c) (how d))) nowhere) q ∙ whole
step (c ∷ d ∷ bs) zero a b h p q f =
    let fs = map how bs in
    let one : (x : List ℕ) → worse (worse (f x) (between (how c x) (how d x))) (among (how d ∷ fs) x) ≡ worse (f x) (among (how c ∷ how d ∷ fs) x) =
    λ x. worse-assoc (f x) (between (how c x) (how d x)) (among (how d ∷ fs) x) ∙ ap (worse (f x)) (head_law (how c) (how d) fs x) in
    let whole : worst (worst f (pairwise (how c) (how d))) (among (how d ∷ fs)) ≡ worst f (among (how c ∷ how d ∷ fs)) = λ j x. one x j in
    let second : b ≡ d = q ∙ ap (λ n. get_or (c ∷ d ∷ bs) n b) (let e : min 1 (suc (suc (length bs)) - 1) ≡ 1 = omega arith in e) in
    ap (λ e. worst (worst f (pairwise (how e) (how b))) (among (how d ∷ fs))) p ∙ ap (λ e. worst (worst f (pairwise (how c) (how e))) (among (how d ∷ fs))) second ∙ whole
step (c ∷ bs) (suc i) a b h p q f =
    let e : min (suc (suc i)) (suc (length bs) - 1) ≡ suc (min (suc i) (length bs - 1)) = omega arith in
    step bs i a b (omega arith) p (q ∙ ap (λ n. get_or (c ∷ bs) n b) e) f

pub join-step : (bs : List Uses) (i n : ℕ) (a b : Uses) (f g all : List ℕ → Use) → i < length bs → a ≡ get_or bs i a → n ≡ min (i + 1) (length bs - 1) → b ≡ get_or bs n b
    → g ≡ worst f (pairwise (how a) (how b)) → worst f (among (map how (drop i bs))) ≡ all → worst g (among (map how (drop (i + 1) bs))) ≡ all
join-step bs i n a b f g all h p m q e1 e2 =
    let at : n ≡ min (suc i) (length bs - 1) = m ∙ ap (λ k. min k (length bs - 1)) (add-one i) in
    ap (λ k. worst g (among (map how (drop k bs)))) (add-one i)
    ∙ ap (λ k. worst k (among (map how (drop (suc i) bs)))) e1
    ∙ step bs i a b h p (q ∙ ap (λ k. get_or bs k b) at) f ∙ e2

pub join-begin : (all : List ℕ → Use) → worst nowhere all ≡ all
join-begin all = λ j x. never-worse (all x) j

pub join-end : (bs : List Uses) (i : ℕ) (f all : List ℕ → Use) → length bs ≤ i → worst f (among (map how (drop i bs))) ≡ all → f ≡ all
join-end bs i f all h e =
    let none : worst f nowhere ≡ f = λ j x. worse-never (f x) j in
    sym none ∙ ap (λ more. worst f (among (map how more))) (sym (drop-end bs i h)) ∙ e
