-- What is decided of contracts on their machines is so in their games.
use Rattle.std.proofs.Common.{◌≡◌, ◌↔◌, ℕ, zero, suc, ◌∷◌, ◌++◌, List, [], arith, refl, sym, subst, ◌∙◌}
use Rattle.std.proofs.lemmas.List.Elements.{All-contains, Contains-append_right}
use Rattle.std.specs.Prelude.{IsTrue, All, Contains, reverse, is_some}
use Rattle.hp_tree.specs.declared.program.Item.{Item}
use Rattle.hp_tree.specs.declared.program.Item.TheVariants.{TypeItem, NodeItem}
use Rattle.hp_tree.specs.Programs.{Node}
use Rattle.hp_boolx.specs.Game.{Forced as ForcedOn, Safe as SafeOn}
use Rattle.hp_boolx.specs.Machine.{Machine, game}
use Rattle.hp_meaning.specs.Contract.Game.{Forced, Safe}
use Rattle.hp_meaning.specs.Contract.Guarantee.{AllSafe}
use Rattle.law_games.specs.ReadyGames.Laws.{Stands}
use Rattle.law_games.proofs.ReadyGamesLemmas.Ordered.{text_order}
use Rattle.law_drawing.proofs.MirrorsLemmas.Apart.{onto, one_more}
use Rattle.law_drawing.specs.Mirrors.Drawn.{DrawnGameLaw, DrawnSafeLaw}
use Rattle.hp_cert.specs.declared.checking.Proved.{Proved}
use Rattle.hp_cert.specs.declared.checking.Proved.TheVariants as proved
use Rattle.hp_verdicts.specs.Decided.{KeptItem, Holds, IsVerdict, verdict_of}
use Rattle.law_decided.specs.Laws.{KeptLaw, ForcedLaw, AllKeptLaw, AllSafeLaw, HoldsOf, IsVerdictOf, ProofLaw, VerifiedLaw, TextLaw}

-- ---- what stands in a program is an item of it

first : (y : Item) (xs : List Item) → Contains (y ∷ xs) y
first y xs = (0, omega arith, refl)

more : (y : Item) (xs : List Item) (x : Item) → Contains xs x → Contains (y ∷ xs) x
more y xs x (k, l, e) = (suc k, omega (arith, l), e)

front : (P : Item → Type 0) (y : Item) (ys : List Item) → P y → ((x : Item) → Contains ys x → P x) → (x : Item) → Contains (y ∷ ys) x → P x
front P y ys p others x (zero, l, e) = subst P e p
front P y ys p others x (suc k, l, e) = others x (k, omega (arith, l), e)

from_onto : (P : Item → Type 0) (xs ys : List Item) → ((x : Item) → Contains xs x → P x) → ((x : Item) → Contains ys x → P x) → (x : Item) → Contains (onto xs ys) x → P x
from_onto P [] ys h others x c = others x c
from_onto P (y ∷ xs) ys h others x c = from_onto P xs (y ∷ ys) (λ x c. h x (more y xs x c)) (front P y ys (h y (first y xs)) others) x c

none : (P : Item → Type 0) (x : Item) → Contains [] x → P x
none P x (k, l, e) = absurd (omega (arith, l))

there : (after earlier : List Item) (n : Node) → Stands after earlier n → (P : Item → Type 0) → All P after → P (NodeItem n)
there after earlier n st P h =
    from_onto P after [] (λ x c. All-contains P after x h c) (none P) (NodeItem n)
    (subst (λ items. Contains items (NodeItem n)) (sym st.1) (Contains-append_right st.0 (NodeItem n ∷ earlier) (NodeItem n) (first (NodeItem n) earlier)))

-- ---- the laws

pub kept : DrawnSafeLaw → KeptLaw
kept law program after ranks o earlier n st k =
    let d = k.is_machine.drawn in
    (law program after ranks o earlier n st d.0 k.machine d.1.0 d.1.1).1 k.safe

pub forced : DrawnGameLaw → ForcedLaw
forced law program after ranks o earlier n st instants k =
    let d = k.is_machine.drawn in
    let same = law program after ranks o earlier n st d.0 k.machine d.1.0 d.1.1 in
    ((same instants).1 k.forced, λ fewer f. k.least fewer ((same fewer).0 f))

pub all_kept : DrawnSafeLaw → AllKeptLaw
all_kept law program after ranks o earlier n st all some = kept law program after ranks o earlier n st (there after earlier n st (KeptItem after) all some)

-- ---- of all nodes

safe_items : (after : List Item) → ((earlier : List Item) (n : Node) → Stands after earlier n → IsTrue (is_some n.contract) → Safe after n []) → (items later : List Item) → reverse after ≡ later ++ items → AllSafe after items
safe_items after h [] later e = tt
safe_items after h (TypeItem t ∷ items) later e = safe_items after h items (later ++ TypeItem t ∷ []) (e ∙ one_more later (TypeItem t) items)
safe_items after h (NodeItem n ∷ items) later e = (
  (λ some. h items n (later, e) (subst (λ o. IsTrue (is_some o)) (sym some.1) refl)),
  safe_items after h items (later ++ NodeItem n ∷ []) (e ∙ one_more later (NodeItem n) items),
)

pub all_safe : DrawnSafeLaw → AllSafeLaw
all_safe law program after ranks o all =
    safe_items after (λ earlier n st some. all_kept law program after ranks o earlier n st all some) (reverse after) [] refl

-- ---- certificates

held_of : (after : List Item) (n : Node) (m : Machine) → (Safe after n [] ↔ SafeOn (game m) m.init) → ((k : ℕ) → Forced after n k [] ↔ ForcedOn (game m) k m.init) → (what : Proved) → Holds m what → HoldsOf after n what
held_of after n m s f proved.Win h = s.1 h
held_of after n m s f (proved.Lose instants) h = (f instants).1 h

verdict_on : (after : List Item) (n : Node) (m : Machine) → (Safe after n [] ↔ SafeOn (game m) m.init) → ((k : ℕ) → Forced after n k [] ↔ ForcedOn (game m) k m.init) → (what : Proved) → IsVerdict m what → IsVerdictOf after n what
verdict_on after n m s f proved.Win h = s.1 h
verdict_on after n m s f (proved.Lose instants) h = record { forced = (f instants).1 h.forced; least = λ fewer forced. h.least fewer ((f fewer).0 forced) }

pub proof_verdict : DrawnGameLaw → DrawnSafeLaw → ProofLaw
proof_verdict games safes program after ranks o earlier n st text p =
    let d = p.is_machine.drawn in
    verdict_on after n p.machine (safes program after ranks o earlier n st d.0 p.machine d.1.0 d.1.1) (games program after ranks o earlier n st d.0 p.machine d.1.0 d.1.1)
    (verdict_of p.certified.certificate.claim) p.verdict

pub verified_holds : DrawnGameLaw → DrawnSafeLaw → VerifiedLaw
verified_holds games safes program after ranks o earlier n st text what p =
    let m = p.has.machine in
    let d = p.has.is_machine.drawn in
    held_of after n m (safes program after ranks o earlier n st d.0 m d.1.0 d.1.1) (games program after ranks o earlier n st d.0 m d.1.0 d.1.1) what p.checked.holds

-- ---- texts

pub text_safe : DrawnSafeLaw → TextLaw
text_safe law text tokens program after ranks a all =
    all_safe law program after ranks (text_order text tokens program after ranks a.spelled a.read a.named a.typed a.defined a.formed a.initialised a.clocks a.fall) all
