-- A lost machine in a table.
use Rattle.std.proofs.Common.{◌≡◌, ◌↔◌, ℕ, zero, suc, ◌+◌, ◌<◌, ◌≤◌, false, not, ◌&&◌, IsTrue, List, [], ◌∷◌, ◌++◌, length, map, take, drop, slice_index_or, refl, sym, ap, ap₂, subst, ◌∙◌, arith}
use Rattle.std.proofs.lemmas.Bool.{and_parts, and_from}
use Rattle.std.proofs.Math.Seq.{take-append_seam}
use Rattle.hp_diagram.specs.declared.reference.Ref.{Ref}
use Rattle.hp_diagram.specs.Diagrams.{Diagrams, path_end, function, valuation, Means, Keeps, zero_ref}
use Rattle.hp_diagram.proofs.Choices.{Keeps-trans, Means-keeps}
use Rattle.hp_boolx.specs.Game.{Game, IsForm, IsState, Forced, bad, joined, loses, valid_choice, valid_early}
use Rattle.hp_boolx.specs.Search.{Bits, Set, every_of}
use Rattle.hp_boolx.specs.Solved.{rank}
use Rattle.hp_boolx.proofs.GameLaws.{Tells}
use Rattle.hp_synth.specs.Building.{HasEach}
use Rattle.hp_synth.specs.Kept.{AllMean}
use Rattle.hp_synth.specs.declared.layout.Layout.{Layout}
use Rattle.hp_synth.specs.Layouts.{place, variable, IsLayout}
use Rattle.hp_synth.specs.Sought.{base_at}
use Rattle.hp_synth.specs.Rounds.{IsCounts}
use Rattle.hp_synth.specs.Valued.{Fun, Valued, all, over, read, total, through, states, earlies as earlies-of, controls, lates, early_from, control_from, late_from, OfState, OfEarly, OfChoice}
use Rattle.hp_synth.proofs.LayoutLaws.{seen}
use Rattle.hp_synth.proofs.Ranges.{read-len}
use Rattle.hp_synth.proofs.SearchSteps.{base_at-len}
use Rattle.hp_synth.proofs.SoughtLaws.{all-has, all-keeps, all-len}
use Rattle.hp_play.specs.Fields.{Exactly, IsField, IsThreat, Leads, rank_ref}
use Rattle.hp_play.specs.Plays.{IsInstant, IsLoss, IsPlayFrom, LoseEach, LosesIn, early_in, state_in, valuations}
use Rattle.hp_play.specs.declared.instant.Instant.{Instant}
use Rattle.hp_play.specs.declared.losing.Field.{Field}
use Rattle.hp_play.specs.declared.losing.Threat.{Threat}
use Rattle.hp_play.proofs.MoveLaws.{HasLengths, MoveAt, forces-is, last-told, more-told, move-instant, move-loses, move-on, move-there, moves-valued, states-valued, valued}
use Rattle.hp_play.proofs.PlayLaws.{valuations-len}

zero-false : (t : Diagrams) (v : Valued) → function t zero_ref v ≡ false
unfolding path_end
zero-false t v = refl

map-len : {A B : Type 0} (f : A → B) (xs : List A) → length (map f xs) ≡ length xs
map-len f [] = refl
map-len f (x ∷ xs) = ap suc (map-len f xs)

-- the reference at a place has the function of the set there
mean-at : (t : Diagrams) (f : Set → Fun) (Xs : List Set) (rs : List Ref) (d : Ref) (D : Set) → AllMean t (map f Xs) rs → (k : ℕ) → k < length rs → Means t (f (slice_index_or Xs k D)) (slice_index_or rs k d)
mean-at t f [] [] d D h k l = absurd (omega (arith, l))
mean-at t f [] (r ∷ rs) d D h k l = absurd h
mean-at t f (X ∷ Xs) [] d D h k l = absurd h
mean-at t f (X ∷ Xs) (r ∷ rs) d D h zero l = h.0
mean-at t f (X ∷ Xs) (r ∷ rs) d D h (suc k) l = mean-at t f Xs rs d D h.1 k (omega (arith, l))

maps : (f : Fun → Fun) (h : Set → Fun) (xs : List Set) → map f (map h xs) ≡ map (λ x. f (h x)) xs
maps f h [] = refl
maps f h (x ∷ xs) = ap (λ q. f (h x) ∷ q) (maps f h xs)

module _ (g : Game) (t : Diagrams) (f : Field) (is : IsField g t f) where
  pub field-has : HasEach t f.roots.items
  field-has = all-has t (base_at (place f.layout) g) f.roots.items is.roots

  pub field-many : 5 + f.layout.counts.registers ≤ length f.roots.items
  field-many =
      let len = all-len t (base_at (place f.layout) g) f.roots.items is.roots in
      let front = base_at-len (place f.layout) g in
      let same = is.counts.0 in
      omega (arith, same, len, front)

  pub field-count : length is.sets ≡ length f.ranks.items
  field-count = sym (map-len (over (place f.layout)) (map (OfState g) is.sets) ∙ map-len (OfState g) is.sets) ∙ all-len t (map (over (place f.layout)) (map (OfState g) is.sets)) f.ranks.items is.ranks

  pub field-keeps : (u : Diagrams) → Keeps t u → IsField g u f
  field-keeps u k = record {
    layout = subst (λ n. IsLayout n f.layout) (sym k.vars) is.layout;
    counts = is.counts;
    roots = all-keeps t u (base_at (place f.layout) g) f.roots.items k is.roots;
    sets = is.sets;
    ranks = all-keeps t u (map (over (place f.layout)) (map (OfState g) is.sets)) f.ranks.items k is.ranks;
    lose = is.lose;
  }

  -- the references of the ranks
  pub rank-means : (k : ℕ) → k ≤ length f.ranks.items → Means t (over (place f.layout) (OfState g (rank is.sets k))) (rank_ref f.ranks.items k)
  rank-means zero l = record { has = omega arith; value = λ v. zero-false t v }
  rank-means (suc k) l =
      mean-at t (λ X. over (place f.layout) (OfState g X)) is.sets f.ranks.items zero_ref (λ r. false)
      (subst (λ (fs : List Fun). AllMean t fs f.ranks.items) (maps (over (place f.layout)) (OfState g) is.sets) is.ranks) k (omega (arith, l))

  -- and what they tell
  pub rank-tells : (k : ℕ) → k ≤ length f.ranks.items → Tells g (rank is.sets k) (Forced g k)
  rank-tells k l = is.lose.exact k (subst (λ n. k ≤ n) (sym field-count) l)

-- ---- what threatens

mean-of : (t : Diagrams) (fs : List Fun) (rs : List Ref) (k : ℕ) (d : Ref) (D : Fun) → AllMean t fs rs → k < length rs → Means t (slice_index_or fs k D) (slice_index_or rs k d)
mean-of t [] [] k d D h l = absurd (omega (arith, l))
mean-of t [] (r ∷ rs) k d D h l = absurd h
mean-of t (f ∷ fs) [] k d D h l = absurd h
mean-of t (f ∷ fs) (r ∷ rs) zero d D h l = h.0
mean-of t (f ∷ fs) (r ∷ rs) (suc k) d D h l = mean-of t fs rs k d D h.1 (omega (arith, l))

module _ (g : Game) (form : IsForm g) (t : Diagrams) (f : Field) (is : IsField g t f) (left : ℕ) (l : left < length f.ranks.items) where
  abbrev p : ℕ → ℕ
  p = place f.layout

  abbrev X : Set
  X = rank is.sets left

  tells : Tells g X (Forced g left)
  tells = rank-tells g t f is left (omega (arith, l))

  -- the valuations by which a violation comes at once or is forced in so many instants
  abbrev IsWorse : Diagrams → Ref → Type 0
  IsWorse u r = Means u (λ v. bad g X (all g (through p v))) r

  abbrev IsForcing : Diagrams → Ref → Type 0
  IsForcing u r = Means u (over p (OfEarly g (λ r u. valid_early g r u && loses g X r u))) r

  pub worse-means : (t1 : Diagrams) (below : Ref) (roots : List Ref) (worse : Ref) → below ≡ rank_ref f.ranks.items left → roots ≡ f.roots.items
      → ((h : Game) (Y : Set) → IsForm h → IsCounts h f.layout.counts → AllMean t (base_at p h) roots → Means t (over p (OfState h Y)) below → Means t1 (λ v. bad h Y (all h (through p v))) worse)
      → IsWorse t1 worse
  worse-means t1 below roots worse is_below is_roots ok =
      ok g X form is.counts (subst (λ (rs : List Ref). AllMean t (base_at p g) rs) (sym is_roots) is.roots)
      (subst (λ (r : Ref). Means t (over p (OfState g X)) r) (sym is_below) (rank-means g t f is left (omega (arith, l))))

  pub forcing-is : (t1 t2 : Diagrams) → Keeps t t1 → (choices earlies worse forcing : Ref) → choices ≡ slice_index_or f.roots.items 3 choices → earlies ≡ slice_index_or f.roots.items 4 earlies → IsWorse t1 worse
      → ((h : Game) (Y : Set) → IsCounts h f.layout.counts → Means t1 (over p (OfChoice h (valid_choice h))) choices → Means t1 (over p (OfEarly h (valid_early h))) earlies
      → Means t1 (λ v. bad h Y (all h (through p v))) worse → Means t2 (over p (OfEarly h (λ r u. valid_early h r u && loses h Y r u))) forcing)
      → IsForcing t2 forcing
  forcing-is t1 t2 k choices earlies worse forcing is_choices is_earlies of_worse ok =
      let many = field-many g t f is in
      let of_choices = subst (λ (r : Ref). Means t (over p (OfChoice g (valid_choice g))) r) (sym is_choices) (mean-of t (base_at p g) f.roots.items 3 choices (λ v. false) is.roots (omega (arith, many))) in
      let of_earlies = subst (λ (r : Ref). Means t (over p (OfEarly g (valid_early g))) r) (sym is_earlies) (mean-of t (base_at p g) f.roots.items 4 earlies (λ v. false) is.roots (omega (arith, many))) in
      ok g X is.counts (Means-keeps t t1 k _ choices of_choices) (Means-keeps t t1 k _ earlies of_earlies) of_worse

  lengths : (v : Valued) → HasLengths g form (earlies-of g (through p v)) (controls g (through p v)) (lates g (through p v))
  lengths v = (read-len (early_from g) g.early (through p v), read-len (control_from g) g.control (through p v), read-len (late_from g) g.late (through p v))

  forces : (u : Diagrams) (forcing : Ref) → IsForcing u forcing → (v : Valued) → IsTrue (function u forcing v) ↔ LosesIn g left (states g (through p v)) (earlies-of g (through p v))
  forces u forcing m v =
      let told = forces-is g form left X tells (states g (through p v)) (earlies-of g (through p v)) (lengths v).0 in
      (λ h. told.0 (sym (m.value v) ∙ h), λ h. m.value v ∙ told.1 h)

  -- what threatens at the last instant,
  pub last-threat : left ≡ 0 → (t1 t2 t3 : Diagrams) → Keeps t1 t2 → Keeps t2 t3 → (worse forcing moves : Ref) → IsWorse t1 worse → IsForcing t2 forcing → Means t3 (λ v. function t2 forcing v && function t2 worse v) moves
      → IsThreat g p left t3 (record { forcing = forcing; moves = moves })
  last-threat z t1 t2 t3 k2 k3 worse forcing moves mw mf mm = record {
    forcing = k3.has forcing mf.has;
    moves = mm.has;
    forces = forces t3 forcing (Means-keeps t2 t3 k3 _ forcing mf);
    leads = λ v.
        let w = through p v in
        let same = mm.value v ∙ ap₂ (λ a b. a && b) (mf.value v) (k2.functions worse mw.has v ∙ mw.value v) in
        let told = last-told g form left z X tells (states g w) (earlies-of g w) (controls g w) (lates g w) (lengths v) in
        (λ h. told.0 (sym same ∙ h), λ m. same ∙ told.1 m);
  }

  -- and before it
  pub more-threat : (k : ℕ) → left ≡ suc k → (t1 t2 t3 t4 t5 : Diagrams) → Keeps t1 t2 → Keeps t2 t3 → Keeps t3 t4 → Keeps t4 t5 → (worse forcing either slow moves : Ref) → IsWorse t1 worse → IsForcing t2 forcing
      → Means t3 (λ v. function t2 forcing v && function t2 worse v) either → Means t4 (over p (OfChoice g (λ r u c. every_of g.late (λ w. not (bad g (rank is.sets k) (joined r u c w)))))) slow
      → Means t5 (λ v. function t4 either v && function t4 slow v) moves → IsThreat g p left t5 (record { forcing = forcing; moves = moves })
  more-threat k z t1 t2 t3 t4 t5 k2 k3 k4 k5 worse forcing either slow moves mw mf me ms mm = record {
    forcing = to_5.has forcing mf.has;
    moves = mm.has;
    forces = forces t5 forcing (Means-keeps t2 t5 to_5 _ forcing mf);
    leads = λ v.
        let w = through p v in
        let both = me.value v ∙ ap₂ (λ a b. a && b) (mf.value v) (k2.functions worse mw.has v ∙ mw.value v) in
        let same = mm.value v ∙ ap₂ (λ a b. a && b) (k4.functions either me.has v ∙ both) (ms.value v) in
        let told = more-told g form left k z X (rank is.sets k) tells (rank-tells g t f is k (omega (arith, l, z))) (states g w) (earlies-of g w) (controls g w) (lates g w) (lengths v) in
        (λ h. told.0 (sym same ∙ h), λ m. same ∙ told.1 m);
  }
    where
      to_5 : Keeps t2 t5
      to_5 = Keeps-trans t2 t4 t5 (Keeps-trans t2 t3 t4 k3 k4) k5

pub threat-keeps : (g : Game) (p : ℕ → ℕ) (left : ℕ) (t u : Diagrams) (threat : Threat) → Keeps t u → IsThreat g p left t threat → IsThreat g p left u threat
threat-keeps g p left t u threat k is = record {
  forcing = k.has threat.forcing is.forcing;
  moves = k.has threat.moves is.moves;
  forces = λ v. let same = k.functions threat.forcing is.forcing v in (λ h. (is.forces v).0 (sym same ∙ h), λ h. same ∙ (is.forces v).1 h);
  leads = λ v. let same = k.functions threat.moves is.moves v in (λ h. (is.leads v).0 (sym same ∙ h), λ h. same ∙ (is.leads v).1 h);
}

-- ---- an instant

-- the valuations here that are moves
module _ (g : Game) (form : IsForm g) (vars : ℕ) (layout : Layout) (ok : IsLayout vars layout) (left : ℕ) (t1 t2 : Diagrams) (threat : Threat) (is : IsThreat g (place layout) left t1 threat) (here moves : Ref) (r : Bits)
    (of_here : (v : Valued) → IsTrue (function t1 here v) ↔ (states g (through (place layout) v) ≡ r)) (means : Means t2 (λ v. function t1 here v && function t1 threat.moves v) moves) where
  pub here-moves : (v : Valued) → IsTrue (function t2 moves v) → (states g (through (place layout) v) ≡ r) × MoveAt g left (through (place layout) v)
  here-moves v h =
      let both = and_parts (function t1 here v) (function t1 threat.moves v) (sym (means.value v) ∙ h) in
      ((of_here v).0 both.0, (is.leads v).0 both.1)

  -- there is one
  pub some-here : IsState g r → Exactly g (suc left) r → (v : Valued) × IsTrue (function t2 moves v)
  some-here s e =
      let m = move-there g form left r s e in
      let own = valued g r m.0 m.1 m.2 in
      let v = through (variable layout) own in
      let back : through (place layout) v ≡ own = seen vars layout ok own in
      let is_state : states g (through (place layout) v) ≡ r = ap (states g) back ∙ states-valued g r m.0 m.1 m.2 s in
      let is_move : MoveAt g left (through (place layout) v) = subst (MoveAt g left) (sym back) (moves-valued g left r m.0 m.1 m.2 s m.3) in
      (v, means.value v ∙ and_from (function t1 here v) (function t1 threat.moves v) ((of_here v).1 is_state) ((is.leads v).1 is_move))

  -- the values at a valuation that is such a move
  pub instant-is : (d : Bits) → IsTrue (function t2 moves (valuation d)) → (n : ℕ) → n ≡ total g → (vs : Bits) → vs ≡ read 0 n (through (place layout) (valuation d))
      → IsInstant g r vs × LosesIn g left (state_in g vs) (early_in g vs) × Leads g left vs
  instant-is d h n e vs at =
      let m = here-moves (valuation d) h in
      let w = through (place layout) (valuation d) in
      (move-instant g n e left w m.1 vs at r m.0, move-loses g n e left w m.1 vs at, move-on g n e left w m.1 vs at)

pub put-back : (n : ℕ) (new old : Bits) → n ≡ length new → take n (new ++ drop (length new) old) ≡ new
put-back n new old e = ap (λ k. take k (new ++ drop (length new) old)) e ∙ take-append_seam new (drop (length new) old)

-- ---- a play that is found

module _ (g : Game) (t : Diagrams) (f : Field) (is : IsField g t f) where
  pub loss-is : (play : List Instant) → length play ≡ length f.ranks.items → LoseEach g (length f.ranks.items) (valuations play) → IsPlayFrom g g.init (valuations play) → IsLoss g (valuations play)
  loss-is play many each played =
      let n : length (valuations play) ≡ length f.ranks.items = valuations-len play ∙ many in
      let same : length is.sets ≡ length (valuations play) = field-count g t f is ∙ sym n in
      record {
        play = played;
        loses = subst (λ k. LoseEach g k (valuations play)) (sym n) each;
        forced = subst (λ k. Forced g k g.init) same is.lose.init;
        least = λ fewer h. subst (λ k. k ≤ fewer) same (is.lose.least fewer h);
      }
