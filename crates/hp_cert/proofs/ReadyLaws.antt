-- The functions of a certificate's references in a table.
use Rattle.std.proofs.Common.{◌≡◌, ℕ, zero, suc, ◌+◌, ◌<◌, ◌≤◌, false, List, [], ◌∷◌, ◌++◌, length, map, All, slice_index_or, refl, sym, ap, subst, ◌∙◌, arith}
use Rattle.std.proofs.lemmas.List.Elements.{All-nil, All-cons}
use Rattle.hp_boolx.specs.Search.{Bits}
use Rattle.hp_boolx.specs.Game.{Game}
use Rattle.hp_boolx.specs.Machine.{Machine, game}
use Rattle.hp_cert.specs.Certtext.Certificates.{IsRef, AreLines}
use Rattle.hp_diagram.specs.declared.reference.Ref.{Ref}
use Rattle.hp_diagram.specs.Diagrams.{Diagrams, Has, Means, valuation}
use Rattle.hp_quant.specs.declared.line.Line.{Line}
use Rattle.hp_quant.specs.Lines.{line_function, reference_at}
use Rattle.hp_synth.specs.Building.{HasEach, functions_at}
use Rattle.hp_synth.specs.declared.layout.Layout.{Layout}
use Rattle.hp_synth.specs.Kept.{AllMean}
use Rattle.hp_synth.specs.Layouts.{place}
use Rattle.hp_synth.specs.Valued.{Valued, through, over, read, states, earlies, OfState}
use Rattle.hp_synth.proofs.Ranges.{read-at, read-parts}
use Rattle.hp_synth.specs.Sought.{base_at}
use Rattle.hp_synth.proofs.RoundSteps.{Means-equal}
use Rattle.hp_synth.proofs.SearchSteps.{base_at-len}
use Rattle.hp_synth.proofs.SoughtLaws.{all-has, all-len}
use Rattle.hp_cert.specs.Conditions.{IsReady}
use Rattle.hp_cert.specs.Proving.{set_of, functions_of, ReadsBelow}
use Rattle.hp_cert.proofs.LineLaws.{reads_alone}

module _ (g : Game) (ls : List Line) (are : AreLines 2 ls) where
  -- a function that reads registers alone is that of a set of states
  pub of_state : (r : ℕ) → r < length ls + 2 → ReadsBelow ls g.registers r → (v : Valued) → line_function ls r v ≡ OfState g (set_of ls r) v
  of_state r within reads v =
      reads_alone ls are g.registers v (valuation (states g v)) (λ x l. sym (read-at 0 g.registers v x l ∙ ap v (omega arith))) r r (omega arith) within reads

  -- one that reads early values too is a function of both
  pub of_early : (r : ℕ) → r < length ls + 2 → ReadsBelow ls (g.registers + g.early) r → (v : Valued) → line_function ls r v ≡ set_of ls r (states g v ++ earlies g v)
  of_early r within reads v =
      reads_alone ls are (g.registers + g.early) v (valuation (states g v ++ earlies g v))
      (λ x l. sym (ap (λ bs. slice_index_or bs x false) (sym (read-parts 0 g.registers g.early (g.registers + g.early) v refl ∙ ap (λ n. read 0 g.registers v ++ read n g.early v) (omega arith)))
      ∙ read-at 0 (g.registers + g.early) v x l ∙ ap v (omega arith))) r r (omega arith) within reads

  pub state_means : (place : ℕ → ℕ) (t : Diagrams) (r : ℕ) (f : Ref) → r < length ls + 2 → ReadsBelow ls g.registers r → Means t (over place (line_function ls r)) f → Means t (over place (OfState g (set_of ls r))) f
  state_means place t r f within reads m = Means-equal t (over place (line_function ls r)) (over place (OfState g (set_of ls r))) f (λ v. of_state r within reads (through place v)) m

  -- all ranks
  pub ranks_mean : (place : ℕ → ℕ) (t : Diagrams) (refs : List Ref) (ranks : List ℕ) → ((k : ℕ) → k < length ranks → (slice_index_or ranks k 0 < length ls + 2) × ReadsBelow ls g.registers (slice_index_or ranks k 0)
      × Means t (over place (line_function ls (slice_index_or ranks k 0))) (reference_at refs (slice_index_or ranks k 0))) → AllMean t (map (λ X. over place (OfState g X)) (map (set_of ls) ranks)) (map (reference_at refs) ranks)
  ranks_mean place t refs [] h = tt
  ranks_mean place t refs (r ∷ rs) h =
      let first = h 0 (omega arith) in
      (state_means place t r (reference_at refs r) first.0 first.1 first.2, ranks_mean place t refs rs (λ k l. h (suc k) (omega (arith, l))))

  -- all functions
  pub funs_mean : (place : ℕ → ℕ) (t : Diagrams) (refs : List Ref) (funs : List ℕ) → ((k : ℕ) → k < length funs → (slice_index_or funs k 0 < length ls + 2) × ReadsBelow ls (g.registers + g.early) (slice_index_or funs k 0)
      × Means t (over place (line_function ls (slice_index_or funs k 0))) (reference_at refs (slice_index_or funs k 0))) →
      HasEach t (map (reference_at refs) funs) × ((v : Valued) → functions_at t (map (reference_at refs) funs) v ≡ functions_of ls funs (states g (through place v)) (earlies g (through place v)))
  funs_mean place t refs [] h = (All-nil (Has t), λ v. refl)
  funs_mean place t refs (f ∷ fs) h =
      let first = h 0 (omega arith) in
      let rest = funs_mean place t refs fs (λ k l. h (suc k) (omega (arith, l))) in (
        All-cons (Has t) (reference_at refs f) (map (reference_at refs) fs) (first.2).has rest.0,
        λ v. ap (λ b. b ∷ functions_at t (map (reference_at refs) fs) v) ((first.2).value v ∙ of_early f first.0 first.1 (through place v))
            ∙ ap (λ bs. set_of ls f (states g (through place v) ++ earlies g (through place v)) ∷ bs) (rest.1 v),
      )

  pub funs_len : (funs : List ℕ) (r u : Bits) → length (functions_of ls funs r u) ≡ length funs
  funs_len [] r u = refl
  funs_len (f ∷ fs) r u = ap suc (funs_len fs r u)

-- ---- what is ready

module _ (m : Machine) (ls : List Line) (are : AreLines 2 ls) (numbers : List ℕ) (layout : Layout) (t : Diagrams) (roots refs : List Ref) (ready : IsReady m ls numbers layout t roots refs) where
  pub ready_has : HasEach t roots
  ready_has = all-has t (base_at (place layout) (game m)) roots ready.roots_mean

  pub ready_len : 5 + m.registers ≤ length roots
  ready_len = let a = all-len t (base_at (place layout) (game m)) roots ready.roots_mean in let b = base_at-len (place layout) (game m) in omega (arith, a, b)

  -- ranks are all of the numbers
  pub ready_ranks : All (IsRef (length ls + 2)) numbers → All (ReadsBelow ls m.registers) numbers → AllMean t (map (λ X. over (place layout) (OfState (game m) X)) (map (set_of ls) numbers)) (map (reference_at refs) numbers)
  ready_ranks refs_in reads = ranks_mean (game m) ls are (place layout) t refs numbers (λ k l. ((refs_in k 0 l).0, reads k 0 l, ready.functions k l))

-- functions, and a set behind them
module _ (m : Machine) (ls : List Line) (are : AreLines 2 ls) (inv : ℕ) (funs : List ℕ) (layout : Layout) (t : Diagrams) (roots refs : List Ref) (ready : IsReady m ls (funs ++ inv ∷ []) layout t roots refs) where
  in_front : (xs : List ℕ) (y k : ℕ) → k < length xs → slice_index_or (xs ++ y ∷ []) k 0 ≡ slice_index_or xs k 0
  in_front [] y k l = absurd (omega (arith, l))
  in_front (x ∷ xs) y zero l = refl
  in_front (x ∷ xs) y (suc k) l = in_front xs y k (omega (arith, l))

  at_end : (xs : List ℕ) (y : ℕ) → slice_index_or (xs ++ y ∷ []) (length xs) 0 ≡ y
  at_end [] y = refl
  at_end (x ∷ xs) y = at_end xs y

  longer : (xs : List ℕ) (y : ℕ) → length (xs ++ y ∷ []) ≡ suc (length xs)
  longer [] y = refl
  longer (x ∷ xs) y = ap suc (longer xs y)

  pub ready_set : IsRef (length ls + 2) inv → ReadsBelow ls m.registers inv → Means t (over (place layout) (OfState (game m) (set_of ls inv))) (reference_at refs inv)
  ready_set ref reads =
      let len = longer funs inv in
      let P : ℕ → Type 0 = λ r. Means t (over (place layout) (line_function ls r)) (reference_at refs r) in
      state_means (game m) ls are (place layout) t inv (reference_at refs inv) ref.0 reads (subst P (at_end funs inv) (ready.functions (length funs) (omega (arith, len))))

  pub ready_funs : All (IsRef (length ls + 2)) funs → All (ReadsBelow ls (m.registers + m.early)) funs →
      HasEach t (map (reference_at refs) funs) × ((v : Valued) → functions_at t (map (reference_at refs) funs) v ≡ functions_of ls funs (states (game m) (through (place layout) v)) (earlies (game m) (through (place layout) v)))
  ready_funs refs_in reads = funs_mean (game m) ls are (place layout) t refs funs (λ k l.
      let len = longer funs inv in
      let P : ℕ → Type 0 = λ r. Means t (over (place layout) (line_function ls r)) (reference_at refs r) in
      ((refs_in k 0 l).0, reads k 0 l, subst P (in_front funs inv k l) (ready.functions k (omega (arith, len, l)))))
