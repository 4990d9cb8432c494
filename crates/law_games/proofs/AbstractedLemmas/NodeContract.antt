-- The places of a contract fit.
use Rattle.std.proofs.Common.{◌≡◌, ℕ, zero, suc, ◌<◌, List, [], ◌∷◌, refl, sym, ap, subst, ◌∙◌, arith}
use Rattle.std.specs.Prelude.{Bool, false, IsFalse, Option, Some}
use Rattle.hp_base.specs.declared.ty.Const.{Const}
use Rattle.hp_base.specs.declared.ty.Ty.{Ty}
use Rattle.hp_base.specs.declared.value.Value.{Value}
use Rattle.hp_base.specs.declared.value.Value.TheVariants.{B}
use Rattle.hp_tree.specs.Expressions.{Expr}
use Rattle.hp_tree.specs.Blocks.{Decl, block, Eqns}
use Rattle.hp_tree.specs.Programs.{TypeDecl, Node}
use Rattle.hp_tree.specs.Operators.{constant_of, marked}
use Rattle.hp_tree.specs.Instant.{Observer, Assume, Enforce, Fresh, Place, Instant, Past, Given, at, part, parts, own, own_with, since}
use Rattle.hp_tree.specs.Meaning.{Names, Nodes, inside, lasts as lasts_said, scope}
use Rattle.hp_typing.specs.Scopes.{with_variables, inside as inside_block}
use Rattle.hp_init.specs.Classes.{Assignment}
use Rattle.law_values.specs.Valued.Judged.{Lasts, lasts_of, IsPlain}
use Rattle.law_values.specs.Valued.Classed.{none_second, classes_in, classes_of}
use Rattle.law_values.proofs.ValuedLemmas.Both.{BlockOk, ToldOk}
use Rattle.law_games.specs.Abstracted.Fitting.{ContractAt as ContractStands, HasValue, Presence, ToldFits}
use Rattle.law_games.proofs.AbstractedLemmas.Loose.{BlockLoose, BlockAt, ContractAt}
use Rattle.law_games.proofs.AbstractedLemmas.Laws.{Along, EachPresence}
use Rattle.hp_tree.specs.Reaction.{Each}
use Rattle.hp_base.specs.Known.Known.{lookup}
use Rattle.law_judged.specs.Typed.Scopes.{Scope}
use Rattle.hp_meaning.specs.Causal.Sources.{only, Within, NameSources}
use Rattle.hp_meaning.specs.Causal.WhatIsRead.{has_equation, in_block}
use Rattle.hp_meaning.specs.Causal.Clocked.{Standing, standing_of, BlockRight, TellsOnBase}
use Rattle.law_games.specs.Abstracted.Given.{reading, BlockGiven, ToldGiven}
use Rattle.law_games.proofs.AbstractedLemmas.Scoped.{presences}
use Rattle.law_games.proofs.AbstractedLemmas.ExprTops.{Callees, along_part}
use Rattle.law_games.proofs.AbstractedLemmas.Gives.{block_asks, HasLasts}
use Rattle.law_games.proofs.AbstractedLemmas.BlockNames.{block_step}
use Rattle.law_games.proofs.AbstractedLemmas.BlockAll.{Outside, block_at, told_at, told}
use Rattle.law_games.proofs.AbstractedLemmas.NodeBody.{within_more}

-- A block that never began anew has all instants as its own past.
own_whole : (past : Past) → Each (λ i. i (Fresh ∷ []) ≡ B false) past → own past ≡ past
own_whole [] a = refl
own_whole (i ∷ past) a = ap (λ v. own_with v i (own past)) a.0 ∙ ap (λ p. i ∷ p) (own_whole past a.1)

pub each_as : (Q R : Instant → Type 0) (past : Past) → ((i : Instant) → Q i → R i) → Each Q past → Each R past
each_as Q R [] f a = tt
each_as Q R (i ∷ past) f a = (f i a.0, each_as Q R past f a.1)

each_observer : (R : Instant → Type 0) (past : Past) → Each (λ i. R (part Observer i)) past → Each R (parts Observer past)
each_observer R [] a = tt
each_observer R (i ∷ past) a = (a.0, each_observer R past a.1)

module _ (types : List TypeDecl) (nils : Bool) (u : Value → Value) (N : Nodes) (among : List ℕ → Option Node) (fits given : List ℕ → Instant → Type 0) (known : Callees types nils (reading u) N among fits given) where
  module _ (sc : Scope) (st : Standing) (lasts : Lasts) (class : Assignment) (names last : Names) (rank : Place → ℕ) (nsrc : NameSources) (ds : List Decl) (es : Eqns) (assume enforce : Option Expr) (g : Given) (now : Instant) (low : IsPlain (block ds es)) (on : BlockRight st (block ds es)) (ona : TellsOnBase (standing_of (block ds es) st) assume) (one : TellsOnBase (standing_of (block ds es) st) enforce) (ok : BlockOk types among sc none_second lasts (λ p. class (Observer ∷ p)) (block ds es)) (oka : ToldOk types among (inside_block sc (block ds es)) (classes_of (block ds es) none_second (λ p. class (Observer ∷ p))) (lasts_of (block ds es) lasts) assume) (oke : ToldOk types among (inside_block sc (block ds es)) (classes_of (block ds es) none_second (λ p. class (Observer ∷ p))) (lasts_of (block ds es) lasts) enforce) (gv : BlockGiven types nils u given sc (block ds es) (part Observer g.free)) (gva : ToldGiven types nils u given (inside_block sc (block ds es)) assume (part Assume g.free)) (gve : ToldGiven types nils u given (inside_block sc (block ds es)) enforce (part Enforce g.free)) (past : Each (ContractAt types nils fits sc class (block ds es) assume enforce) g.past) (outer : (x : List ℕ) (t : Ty) (d : Bool) → IsFalse (has_equation (block ds es) x) → st x ≡ Some [] → lookup sc.variables x ≡ Some t → HasValue types t d (names x)) (hl : HasLasts types sc lasts last) (falls : (p : Place) → Within (λ q. rank q < rank (Observer ∷ p)) (in_block (block ds es) nsrc (λ q. only (Observer ∷ q)) p)) (m : (p : Place) → now (Observer ∷ p) ≡ scope types (reading u) N (block ds es) false names last (since false (at Observer g)) (part Observer now) p) where
    abbrev gc : Given
    gc = since false (at Observer g)

    abbrev Asks : Place → Type 0
    Asks p = block_asks types nils fits (block ds es) sc (λ q. class (Observer ∷ q)) names last gc (part Observer now) p (now (Observer ∷ p))

    whole : own (parts Observer g.past) ≡ parts Observer g.past
    whole = own_whole (parts Observer g.past) (each_observer (λ i. i (Fresh ∷ []) ≡ B false) g.past (each_as _ _ g.past (λ i z. z.1.1.1.0) past))

    blocks : Each (BlockLoose types nils fits sc none_second (λ p. class (Observer ∷ p)) (block ds es)) (own (parts Observer g.past))
    blocks = subst (λ z. Each (BlockLoose types nils fits sc none_second (λ p. class (Observer ∷ p)) (block ds es)) z) (sym whole) (each_observer _ g.past (each_as _ _ g.past (λ i z. (z.0, (z.1.0, z.1.1.0))) past))

    abbrev Told : Presence → Option Expr → Instant → Type 0
    Told w e i = ToldFits types nils fits (with_variables sc ds) (classes_in es none_second (λ p. class (Observer ∷ p))) w e i

    abbrev Before : Presence → Instant → Type 0
    Before w i = BlockAt types nils fits sc none_second (λ p. class (Observer ∷ p)) w (block ds es) (part Observer i) × ((i (Observer ∷ Fresh ∷ []) ≡ B false) × (Told w assume (part Assume i) × Told w enforce (part Enforce i)))

    before : (ws : List Presence) × (EachPresence ws × Along Before ws g.past)
    before = presences Before g.past past

    block_past : (ws : List Presence) → Along Before ws g.past → Along (λ w i. BlockAt types nils fits sc none_second (λ p. class (Observer ∷ p)) w (block ds es) i) ws (own (parts Observer g.past))
    block_past ws a = subst (λ z. Along (λ w i. BlockAt types nils fits sc none_second (λ p. class (Observer ∷ p)) w (block ds es) i) ws z) (sym whole) (along_part Before _ Observer ws g.past (λ w i z. z.0) a)

    below_rank : (r : ℕ) (p : Place) → rank (Observer ∷ p) < r → Asks p
    below_rank zero p h = absurd (omega arith)
    below_rank (suc r) p h =
        block_step (λ q. rank q < rank (Observer ∷ p)) types nils u N among fits given known (block ds es) sc st none_second lasts (λ q. class (Observer ∷ q)) nsrc (λ q. only (Observer ∷ q)) names last false gc (part Observer now) low on ok gv blocks
        (λ x t f e l w. outer x t _ f e l) hl m
        (λ q w. within_more (λ z. rank z < rank (Observer ∷ q)) (λ z. rank z < rank (Observer ∷ p)) (λ z y. omega arith) (in_block (block ds es) nsrc (λ q. only (Observer ∷ q)) q) (falls q))
        (λ q w. below_rank r q (omega arith))
        p (falls p)

    asked : (p : Place) → Asks p
    asked p = below_rank (suc (rank (Observer ∷ p))) p (omega arith)

    pub contract_at : ((p : Place) → now (Assume ∷ p) ≡ told types nils u N among fits given known assume (inside es names (part Observer now)) (lasts_said (λ (k : Const). marked (constant_of types k)) ds gc.past last) (at Assume g) (part Assume now) p) → ((p : Place) → now (Enforce ∷ p) ≡ told types nils u N among fits given known enforce (inside es names (part Observer now)) (lasts_said (λ (k : Const). marked (constant_of types k)) ds gc.past last) (at Enforce g) (part Enforce now) p) → ContractStands types nils fits sc class names (block ds es) assume enforce now
    contract_at ma me =
        let pr : (ws : List Presence) × (EachPresence ws × Along (λ w i. BlockAt types nils fits sc none_second (λ p. class (Observer ∷ p)) w (block ds es) i) ws (own (parts Observer g.past))) = (before.0, (before.1.0, block_past before.0 before.1.1)) in
        let out : Outside types nils u N among fits given known (block ds es) sc st none_second names gc.past = λ x t f e l w. outer x t _ f e l in (
          block_at types nils u N among fits given known ds es sc st none_second lasts (λ q. class (Observer ∷ q)) names last false gc (part Observer now) low on ok gv blocks pr out hl m asked,
          (
            m (Fresh ∷ []),
            (
              told_at types nils u N among fits given known ds es sc st none_second lasts (λ q. class (Observer ∷ q)) names last gc (part Observer now) on ok blocks pr out hl asked assume (at Assume g) (part Assume now) oka ona gva
                  (along_part Before _ Assume before.0 g.past (λ w i z. z.1.1.0) before.1.1) ma,
              told_at types nils u N among fits given known ds es sc st none_second lasts (λ q. class (Observer ∷ q)) names last gc (part Observer now) on ok blocks pr out hl asked enforce (at Enforce g) (part Enforce now) oke one gve
                  (along_part Before _ Enforce before.0 g.past (λ w i z. z.1.1.1) before.1.1) me,
            ),
          ),
        )
