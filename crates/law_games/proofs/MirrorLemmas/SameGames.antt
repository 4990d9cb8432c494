-- A machine that follows the histories of a node has the game of the node's contract.
use Rattle.std.proofs.Common.{◌≡◌, ◌↔◌, ℕ, zero, suc, List, [], ◌∷◌, length, sym, ap, ap₂, subst, ◌∙◌, ◌⊎◌, inl, inr}
use Rattle.std.specs.Prelude.{IsTrue, IsFalse}
use Rattle.hp_base.specs.declared.value.Value.{Value}
use Rattle.hp_tree.specs.declared.program.Item.{Item}
use Rattle.hp_tree.specs.Programs.{Node}
use Rattle.hp_tree.specs.Instant.{Instant, Past}
use Rattle.hp_tree.specs.Meaning.{types_of}
use Rattle.hp_meaning.specs.Causal.Causality.{IsRanked}
use Rattle.hp_meaning.specs.Causal.OneReaction.{OneInstant}
use Rattle.hp_meaning.specs.Causal.Abstract.{abstract_meaning}
use Rattle.hp_meaning.specs.Causal.Steering.{steered_by}
use Rattle.hp_meaning.proofs.CausalLemmas.AbstractOne.{abstract_one}
use Rattle.hp_boolx.specs.Search.{Bits}
use Rattle.hp_boolx.specs.Game.{joined, Before, ValidEarly, ValidChoice, ValidLate, Forced as ForcedOn, Safe as SafeOn, Permitted as PermittedOn}
use Rattle.hp_boolx.specs.Solved.{IsChoice}
use Rattle.hp_boolx.specs.Machine.{Machine, game}
use Rattle.hp_meaning.specs.Contract.FreePlaces.{InputsFit}
use Rattle.hp_meaning.specs.Contract.Duties.{hypothesis, duty}
use Rattle.hp_meaning.specs.Contract.Game.{Choice, IsChoiceOf, at_controls, IsNext, Forced, Safe, Permitted, preferred, IsChosen}
use Rattle.hp_meaning.specs.Contract.Memory.{bits}
use Rattle.law_games.specs.Mirror.Histories.{Built, Comes, EarlyFits, Coding, IsValid, Follows, PrefersAs, SameGameLaw, SameSafeLaw, SameAtFirstLaw, SamePermittedLaw, SameChoiceLaw}

either : {A B C D : Type 0} → (A → C) → (B → D) → A ⊎ B → C ⊎ D
either f g (inl a) = inl (f a)
either f g (inr b) = inr (g b)

module _ (program : List Item) (n : Node) (m : Machine) (code : Coding) (ranked : IsRanked program) (F : Follows program n m code) where
  abbrev at : Past → List Value → Instant → Choice → Bits
  at h vs i c = joined (bits program n h) (code.early vs i) (code.control c) (code.late i)

  -- the instant that comes
  comes : (h : Past) (vs : List Value) (free : Instant) (c : Choice) → (now : Instant) × Comes program n h vs free c now
  comes h vs free c =
      let one : OneInstant (abstract_meaning program n.name vs (record { past = h; free = steered_by free (at_controls c) })) = abstract_one program n.name vs (record { past = h; free = steered_by free (at_controls c) }) ranked in
      (one.now, one.meets)

  -- valid parts of a valuation
  late_of : (r u c w : Bits) → IsValid (game m) r u c w → ValidLate (game m) r u c w
  late_of r u c w v = (v.late, v.codes)

  choice_of : (r u c w : Bits) → IsValid (game m) r u c w → ValidChoice (game m) r u c
  choice_of r u c w v = (v.control, (w, (v.late, v.codes)))

  early_of : (r u c w : Bits) → IsValid (game m) r u c w → ValidEarly (game m) r u
  early_of r u c w v = (v.early, (c, (v.control, (w, (v.late, v.codes)))))

  whole : (r u c : Bits) → length u ≡ m.early → (v : ValidChoice (game m) r u c) → IsValid (game m) r u c v.1.0
  whole r u c l v = record { early = l; control = v.0; late = v.1.1.0; codes = v.1.1.1 }

  with_late : (r u c w : Bits) → length u ≡ m.early → length c ≡ m.control → ValidLate (game m) r u c w → IsValid (game m) r u c w
  with_late r u c w l k v = record { early = l; control = k; late = v.0; codes = v.1 }

  -- ---- one instant

  -- what the machine says at the codes of a choice, with some late bits
  abbrev Says : (Bits → Type 0) → Past → Bits → Choice → Bits → Type 0
  Says P h u c w =
      ValidLate (game m) (bits program n h) u (code.control c) w
      × IsTrue ((game m).hyp (joined (bits program n h) u (code.control c) w))
      × (IsFalse ((game m).duty (joined (bits program n h) u (code.control c) w)) ⊎ P ((game m).next (joined (bits program n h) u (code.control c) w)))

  -- an instant that comes is one of the machine
  said : (P : Bits → Type 0) (h : Past) (vs : List Value) (early : Instant) (c : Choice) (now : Instant) → Built program n h → InputsFit (types_of program) n.inputs vs → IsChoiceOf program n c → (x : IsNext program n h vs early c now)
      → IsTrue (hypothesis n now) → IsFalse (duty n now) ⊎ P (bits program n (now ∷ h)) → Says P h (code.early vs early) c (code.late x.free)
  said P h vs early c now b fit is x hyp e =
      subst (λ u. Says P h u c (code.late x.free)) (F.early_only vs x.free early x.agrees) (
        late_of (bits program n h) (code.early vs x.free) (code.control c) (code.late x.free) (F.valid h vs x.free c b fit is),
        F.hypothesis_is h vs x.free c now b fit is x.fits x.meets ∙ hyp,
        either (λ f. F.duty_is h vs x.free c now b fit is x.fits x.meets ∙ f) (λ f. subst P (sym (F.next_is h vs x.free c now b fit is x.fits x.meets)) f) e,
      )

  -- and some instant comes at valid late bits
  abbrev Meant : Past → List Value → Instant → Choice → Bits → Instant → Type 0
  Meant h vs early c w now =
      IsNext program n h vs early c now
      × ((game m).hyp (joined (bits program n h) (code.early vs early) (code.control c) w) ≡ hypothesis n now)
      × ((game m).duty (joined (bits program n h) (code.early vs early) (code.control c) w) ≡ duty n now)
      × ((game m).next (joined (bits program n h) (code.early vs early) (code.control c) w) ≡ bits program n (now ∷ h))

  meant : (h : Past) (vs : List Value) (early : Instant) (c : Choice) (w : Bits) → Built program n h → InputsFit (types_of program) n.inputs vs → EarlyFits program n early → IsChoiceOf program n c
      → IsValid (game m) (bits program n h) (code.early vs early) (code.control c) w → (now : Instant) × Meant h vs early c w now
  meant h vs early c w b fit ef is v =
      let l = F.late_codes h vs early c w b fit ef is v in
      let free = l.0 in
      let x = comes h vs free c in
      let now = x.0 in
      let fits = l.1 now x.1 in
      let here : joined (bits program n h) (code.early vs early) (code.control c) w ≡ at h vs free c = ap₂ (λ u w. joined (bits program n h) u (code.control c) w) (sym (F.early_only vs free early l.2)) (sym l.3) in (
        now,
        (
          record { free = free; fits = fits; agrees = l.2; meets = x.1 },
          ap (game m).hyp here ∙ F.hypothesis_is h vs free c now b fit is fits x.1,
          ap (game m).duty here ∙ F.duty_is h vs free c now b fit is fits x.1,
          ap (game m).next here ∙ F.next_is h vs free c now b fit is fits x.1,
        ),
      )

  built : (h : Past) (vs : List Value) (early : Instant) (c : Choice) (now : Instant) → Built program n h → InputsFit (types_of program) n.inputs vs → IsChoiceOf program n c → IsNext program n h vs early c now → Built program n (now ∷ h)
  built h vs early c now b fit is x = (b, (vs, early, c, fit, is, x))

  -- ---- what is forced

  -- a choice that loses, by some late bits
  abbrev LosesBy : ℕ → Past → Bits → Bits → Type 0
  LosesBy k h u c =
      (w : Bits) × ValidLate (game m) (bits program n h) u c w × IsTrue ((game m).hyp (joined (bits program n h) u c w)) × (IsFalse ((game m).duty (joined (bits program n h) u c w)) ⊎ ForcedOn (game m) k ((game m).next (joined (bits program n h) u c w)))

  onto : (k : ℕ) (h : Past) → Built program n h → Forced program n k h → ForcedOn (game m) k (bits program n h)
  onto zero h b f = absurd f
  onto (suc k) h b f =
      let vs = f.0 in
      let early = f.1 in
      let fit = f.2 in
      let d = preferred program n in
      let v = F.valid h vs early d b fit F.preferred_is in (
        code.early vs early,
        early_of (bits program n h) (code.early vs early) (code.control d) (code.late early) v,
        λ c vc.
            let e = F.control_codes h (code.early vs early) c vc.1.0 b (whole (bits program n h) (code.early vs early) c v.early vc) in
            let g = f.3 e.0 e.1 in
            let s = said (ForcedOn (game m) k) h vs early e.0 g.0 b fit e.1 g.1 g.2 (either (λ f. f) (onto k (g.0 ∷ h) (built h vs early e.0 g.0 b fit e.1 g.1)) g.3) in
            subst (LosesBy k h (code.early vs early)) e.2 (code.late g.1.free, s.0, s.1, s.2),
      )

  -- what is forced at these early bits
  abbrev Forces : ℕ → Past → Bits → Type 0
  Forces k h u = (c : Bits) → ValidChoice (game m) (bits program n h) u c → LosesBy k h u c

  -- a choice that loses on the machine has an instant by which it loses
  answered : (P : Past → Type 0) (k : ℕ) (h : Past) (vs : List Value) (early : Instant) (d : Choice) → Built program n h → InputsFit (types_of program) n.inputs vs → EarlyFits program n early → IsChoiceOf program n d
      → ((now : Instant) → Built program n (now ∷ h) → ForcedOn (game m) k (bits program n (now ∷ h)) → P (now ∷ h))
      → LosesBy k h (code.early vs early) (code.control d) → (now : Instant) × IsNext program n h vs early d now × IsTrue (hypothesis n now) × (IsFalse (duty n now) ⊎ P (now ∷ h))
  answered P k h vs early d b fit ef isd further g =
      let v = F.valid h vs early d b fit isd in
      let x = meant h vs early d g.0 b fit ef isd (with_late (bits program n h) (code.early vs early) (code.control d) g.0 v.early v.control g.1) in
      let now : Instant = x.0 in
      let owes : (game m).duty (joined (bits program n h) (code.early vs early) (code.control d) g.0) ≡ duty n now = x.1.2 in
      let leaves : (game m).next (joined (bits program n h) (code.early vs early) (code.control d) g.0) ≡ bits program n (now ∷ h) = x.1.3 in
      let later : IsFalse (duty n now) ⊎ P (now ∷ h) =
      either
      {A = IsFalse ((game m).duty (joined (bits program n h) (code.early vs early) (code.control d) g.0))}
      {B = ForcedOn (game m) k ((game m).next (joined (bits program n h) (code.early vs early) (code.control d) g.0))}
      (λ f. sym owes ∙ f) (λ f. further now (built h vs early d now b fit isd x.1.0) (subst (ForcedOn (game m) k) leaves f)) g.3 in
      (now, x.1.0, sym x.1.1 ∙ g.2, later)

  back : (k : ℕ) (h : Past) → Built program n h → ForcedOn (game m) k (bits program n h) → Forced program n k h
  back zero h b f = absurd f
  back (suc k) h b f =
      let ve = f.1 in
      let e = F.early_codes h f.0 ve.1.0 ve.1.1.1.0 b (whole (bits program n h) f.0 ve.1.0 ve.0 ve.1.1) in
      let vs = e.0 in
      let early = e.1 in
      let forces : Forces k h (code.early vs early) = subst (Forces k h) (sym e.4) f.2 in (
        vs,
        early,
        e.2,
        λ d isd.
            let v = F.valid h vs early d b e.2 isd in
            answered (Forced program n k) k h vs early d b e.2 e.3 isd (λ now b f. back k (now ∷ h) b f) (forces (code.control d) (choice_of (bits program n h) (code.early vs early) (code.control d) (code.late early) v)),
      )

  -- ---- what is safe, permitted and chosen

  safe : (h : Past) → Built program n h → Safe program n h ↔ SafeOn (game m) (bits program n h)
  safe h b = ((λ s k f. s k (back k h b f)), (λ s k f. s k (onto k h b f)))

  permitted_onto : (h : Past) (vs : List Value) (early : Instant) (c : Choice) → Built program n h → InputsFit (types_of program) n.inputs vs → EarlyFits program n early → IsChoiceOf program n c → Permitted program n h vs early c → PermittedOn (game m) (bits program n h) (code.early vs early) (code.control c)
  permitted_onto h vs early c b fit ef is p =
      let v = F.valid h vs early c b fit is in (
        choice_of (bits program n h) (code.early vs early) (code.control c) (code.late early) v,
        λ w vl hyp.
            let x = meant h vs early c w b fit ef is (with_late (bits program n h) (code.early vs early) (code.control c) w v.early v.control vl) in
            let q = p x.0 x.1.0 (sym x.1.1 ∙ hyp) in (
              x.1.2 ∙ q.0,
              subst (SafeOn (game m)) (sym x.1.3) ((safe (x.0 ∷ h) (built h vs early c x.0 b fit is x.1.0)).0 q.1),
            ),
      )

  permitted_back : (h : Past) (vs : List Value) (early : Instant) (c : Choice) → Built program n h → InputsFit (types_of program) n.inputs vs → IsChoiceOf program n c → PermittedOn (game m) (bits program n h) (code.early vs early) (code.control c) → Permitted program n h vs early c
  permitted_back h vs early c b fit is p now x hyp =
      let free = x.free in
      let v = F.valid h vs free c b fit is in
      let here : code.early vs free ≡ code.early vs early = F.early_only vs free early x.agrees in
      let p' : PermittedOn (game m) (bits program n h) (code.early vs free) (code.control c) = subst (λ u. PermittedOn (game m) (bits program n h) u (code.control c)) (sym here) p in
      let q = p'.1 (code.late free) (late_of (bits program n h) (code.early vs free) (code.control c) (code.late free) v) (F.hypothesis_is h vs free c now b fit is x.fits x.meets ∙ hyp) in (
        sym (F.duty_is h vs free c now b fit is x.fits x.meets) ∙ q.0,
        (safe (now ∷ h) (built h vs early c now b fit is x)).1 (subst (SafeOn (game m)) (F.next_is h vs free c now b fit is x.fits x.meets) q.1),
      )

  -- a permitted choice of the machine is that of a choice
  stands : (h : Past) (vs : List Value) (early : Instant) (c : Bits) → Built program n h → InputsFit (types_of program) n.inputs vs → PermittedOn (game m) (bits program n h) (code.early vs early) c → (d : Choice) × IsChoiceOf program n d × (code.control d ≡ c)
  stands h vs early c b fit p =
      let v = F.valid h vs early (preferred program n) b fit F.preferred_is in
      F.control_codes h (code.early vs early) c p.0.1.0 b (whole (bits program n h) (code.early vs early) c v.early p.0)

  many : PrefersAs program n m code → (h : Past) (vs : List Value) (early : Instant) (c : Choice) → Built program n h → InputsFit (types_of program) n.inputs vs → IsChoiceOf program n c → length (code.control c) ≡ length m.prefer
  many O h vs early c b fit is = (F.valid h vs early c b fit is).control ∙ sym O.many

  chosen_onto : PrefersAs program n m code → (h : Past) (vs : List Value) (early : Instant) (c : Choice) → Built program n h → InputsFit (types_of program) n.inputs vs → EarlyFits program n early → IsChoiceOf program n c → IsChosen program n h vs early c → IsChoice (game m) (bits program n h) (code.early vs early) (code.control c)
  chosen_onto O h vs early c b fit ef is ch =
      record {
        len = many O h vs early c b fit is;
        best = λ bs l p.
            let d = stands h vs early bs b fit p in
            let g = ch.greatest d.0 d.1 (permitted_back h vs early d.0 b fit d.1 (subst (PermittedOn (game m) (bits program n h) (code.early vs early)) (sym d.2) p)) in
            (permitted_onto h vs early c b fit ef is g.0, subst (Before m.prefer (code.control c)) d.2 ((O.order c d.0 is d.1).0 g.1));
        else_prefer = λ no. ap code.control (ch.else_preferred (λ d isd p. no (code.control d) (many O h vs early d b fit isd) (permitted_onto h vs early d b fit ef isd p))) ∙ sym O.first;
      }

  chosen_back : PrefersAs program n m code → (h : Past) (vs : List Value) (early : Instant) (c : Choice) → Built program n h → InputsFit (types_of program) n.inputs vs → EarlyFits program n early → IsChoiceOf program n c → IsChoice (game m) (bits program n h) (code.early vs early) (code.control c) → IsChosen program n h vs early c
  chosen_back O h vs early c b fit ef is ch =
      record {
        fits = is;
        greatest = λ d isd p.
            let g = ch.best (code.control d) (many O h vs early d b fit isd) (permitted_onto h vs early d b fit ef isd p) in
            (permitted_back h vs early c b fit is g.0, (O.order c d is isd).1 g.1);
        else_preferred = λ no.
            O.own c (preferred program n) is F.preferred_is
            (ch.else_prefer (λ bs l p. let d = stands h vs early bs b fit p in no d.0 d.1 (permitted_back h vs early d.0 b fit d.1 (subst (PermittedOn (game m) (bits program n h) (code.early vs early)) (sym d.2) p))) ∙ O.first);
      }

pub same_game : SameGameLaw
same_game program n m code ranked F k h b = (onto program n m code ranked F k h b, back program n m code ranked F k h b)

pub same_safe : SameSafeLaw
same_safe program n m code ranked F h b = safe program n m code ranked F h b

pub same_at_first : SameAtFirstLaw
same_at_first program n m code ranked F =
    let s = safe program n m code ranked F [] tt in
    ((λ p. subst (SafeOn (game m)) (sym F.init) (s.0 p)), (λ p. s.1 (subst (SafeOn (game m)) F.init p)))

pub same_permitted : SamePermittedLaw
same_permitted program n m code ranked F h vs early c b fit ef is = (permitted_onto program n m code ranked F h vs early c b fit ef is, permitted_back program n m code ranked F h vs early c b fit is)

pub same_choice : SameChoiceLaw
same_choice program n m code ranked F O h vs early c b fit ef is = (chosen_onto program n m code ranked F O h vs early c b fit ef is, chosen_back program n m code ranked F O h vs early c b fit ef is)
