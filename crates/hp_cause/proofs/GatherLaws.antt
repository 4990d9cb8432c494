-- What is gathered in the lists of a block.
use Rattle.std.proofs.Common.{◌≡◌, ℕ, ◌+◌, ◌<◌, ◌≤◌, get_or, length, drop, take, map, Bor, List, ◌++◌, Option, ap, ◌∙◌, arith}
use Rattle.std.proofs.lemmas.List.{length-append, length-map, take-append-le}
use Rattle.std.proofs.Math.Seq.{take-length}
use Rattle.hp_tree.specs.Blocks.{Decl, eqns_of, arms_of, states_of}
use Rattle.hp_tree.specs.BlockView.{eqn_seen, arm_seen, state_seen}
use Rattle.hp_tree.specs.declared.block.Eqn as code_eqn
use Rattle.hp_tree.specs.declared.block.Arm as code_arm
use Rattle.hp_tree.specs.declared.block.State as code_state
use Rattle.hp_tables.specs.declared.defining.layer.Layer.{Layer}
use Rattle.hp_cause.specs.Facts.{Fact}
use Rattle.hp_cause.specs.Gathering.{Sight, of_block, of_eqn, of_eqns, of_arms, of_state, of_states}
use Rattle.hp_tables.specs.Defining.Layers.{sight}
use Rattle.hp_cause.specs.Told.{front, names_seen, with_more}
use Rattle.hp_cause.specs.Vertices.{own_size, size_inside, size_of, size_of_all, size_of_arms, size_of_states, size_of_tests}
use Rattle.hp_cause.proofs.GrowLaws.{drop-next, more-append, more-is}

-- ---- one more element of a list

module _ (before : List Fact) where
  pub next-eqn : (see : Sight) (control : Option ℕ) (around : List (List ℕ)) (ds : List Decl) (k : ℕ) (es : List code_eqn.Eqn) (i : ℕ) (e : code_eqn.Eqn) → i < length es → e ≡ get_or es i e
      → with_more before (of_eqns see control around ds k (eqns_of (map eqn_seen (drop i es))))
      ≡ with_more (with_more before (of_eqn see control around ds k (eqn_seen e))) (of_eqns see control around ds (k + size_of (eqn_seen e)) (eqns_of (map eqn_seen (drop (i + 1) es))))
  next-eqn see control around ds k es i e h p =
      ap (λ more. with_more before (of_eqns see control around ds k (eqns_of (map eqn_seen more)))) (drop-next es i e h p)
      ∙ more-append before (of_eqn see control around ds k (eqn_seen e)) (of_eqns see control around ds (k + size_of (eqn_seen e)) (eqns_of (map eqn_seen (drop (i + 1) es))))

  pub next-arm : (out see : Sight) (control : Option ℕ) (around : List (List ℕ)) (k : ℕ) (arms : List code_arm.Arm) (i : ℕ) (a : code_arm.Arm) → i < length arms → a ≡ get_or arms i a
      → with_more before (of_arms out see control around k (arms_of (map arm_seen (drop i arms))))
      ≡ with_more (with_more before (of_block out see control around k a.body)) (of_arms out see control around ((k + own_size a.body) + size_inside a.body) (arms_of (map arm_seen (drop (i + 1) arms))))
  next-arm out see control around k arms i a h p =
      ap (λ more. with_more before (of_arms out see control around k (arms_of (map arm_seen more)))) (drop-next arms i a h p)
      ∙ more-append before (of_block out see control around k a.body) (of_arms out see control around ((k + own_size a.body) + size_inside a.body) (arms_of (map arm_seen (drop (i + 1) arms))))

  pub next-state : (out see : Sight) (control : Option ℕ) (active next : ℕ) (around : List (List ℕ)) (k : ℕ) (qs : List code_state.State) (i : ℕ) (q : code_state.State) → i < length qs → q ≡ get_or qs i q
      → with_more before (of_states out control see active next around k (states_of (map state_seen (drop i qs))))
      ≡ with_more (with_more before (of_state out control see active next around k q.body q.until.items q.unless.items))
      (of_states out control see active next around ((((k + own_size q.body) + size_inside q.body) + size_of_tests q.until.items) + size_of_tests q.unless.items) (states_of (map state_seen (drop (i + 1) qs))))
  next-state out see control active next around k qs i q h p =
      ap (λ more. with_more before (of_states out control see active next around k (states_of (map state_seen more)))) (drop-next qs i q h p)
      ∙ more-append before (of_state out control see active next around k q.body q.until.items q.unless.items)
      (of_states out control see active next around ((((k + own_size q.body) + size_inside q.body) + size_of_tests q.until.items) + size_of_tests q.unless.items) (states_of (map state_seen (drop (i + 1) qs))))

pub count-eqns : (es : List code_eqn.Eqn) (i : ℕ) (e : code_eqn.Eqn) → i < length es → e ≡ get_or es i e
    → size_of_all (eqns_of (map eqn_seen (drop i es))) ≡ size_of (eqn_seen e) + size_of_all (eqns_of (map eqn_seen (drop (i + 1) es)))
count-eqns es i e h p = ap (λ more. size_of_all (eqns_of (map eqn_seen more))) (drop-next es i e h p)

pub count-arms : (arms : List code_arm.Arm) (i : ℕ) (a : code_arm.Arm) → i < length arms → a ≡ get_or arms i a
    → size_of_arms (arms_of (map arm_seen (drop i arms))) ≡ (own_size a.body + size_inside a.body) + size_of_arms (arms_of (map arm_seen (drop (i + 1) arms)))
count-arms arms i a h p = ap (λ more. size_of_arms (arms_of (map arm_seen more))) (drop-next arms i a h p)

pub count-states : (qs : List code_state.State) (i : ℕ) (q : code_state.State) → i < length qs → q ≡ get_or qs i q
    → size_of_states (states_of (map state_seen (drop i qs)))
    ≡ ((own_size q.body + size_inside q.body) + (size_of_tests q.until.items + size_of_tests q.unless.items)) + size_of_states (states_of (map state_seen (drop (i + 1) qs)))
count-states qs i q h p = ap (λ more. size_of_states (states_of (map state_seen more))) (drop-next qs i q h p)

-- numbers add up
pub numbers-through : (first now after own inner rest all from : ℕ) → after ≡ (now + own) + inner → from ≡ (own + inner) + rest → now + from ≡ first + all → after + rest ≡ first + all
numbers-through first now after own inner rest all from a b c = omega arith

pub numbers-past : (first now after own inner until unless rest all from : ℕ) → after ≡ (((now + own) + inner) + until) + unless → from ≡ ((own + inner) + (until + unless)) + rest → now + from ≡ first + all → after + rest ≡ first + all
numbers-past first now after own inner until unless rest all from a b c = omega arith

-- what one element says, where scopes are as they were
pub facts-on : (first now : List Layer) (around seen : List (List ℕ)) (made after : List Fact) (k next : ℕ) (own : Sight → Sight → List (List ℕ) → List Fact) (rest : ℕ → List Fact)
    → now ≡ first → seen ≡ around → next ≡ k → after ≡ with_more made (own (sight (front now)) (sight now) seen)
    → with_more after (rest next) ≡ with_more (with_more made (own (sight (front first)) (sight first) around)) (rest k)
facts-on first now around seen made after k next own rest values names numbers facts =
    ap (λ m. with_more after (rest m)) numbers
    ∙ ap (λ more. with_more more (rest k)) facts
    ∙ ap (λ ls. with_more (with_more made (own (sight (front ls)) (sight ls) seen)) (rest k)) values
    ∙ ap (λ xs. with_more (with_more made (own (sight (front first)) (sight first) xs)) (rest k)) names

-- ---- the names around, in a block and behind it

module _ (old inner new : List (Bor (List ℕ))) (more : List (List ℕ)) (count : ℕ) (counted : count ≡ length old) (grown : names_seen inner ≡ with_more (names_seen old) more) (kept : names_seen new ≡ names_seen inner) where
  all : names_seen new ≡ names_seen old ++ more
  all = kept ∙ grown ∙ more-is (names_seen old) more

  pub no_shorter : count ≤ length new
  no_shorter =
      let a : length (names_seen new) ≡ length new = length-map new (λ (x : Bor (List ℕ)). x.now) in
      let b : length (names_seen old) ≡ length old = length-map old (λ (x : Bor (List ℕ)). x.now) in
      let c : length (names_seen new) ≡ length (names_seen old) + length more = ap length all ∙ length-append (names_seen old) more in
      omega arith

  pub as_before : take count (names_seen new) ≡ names_seen old
  as_before =
      let b : length (names_seen old) ≡ length old = length-map old (λ (x : Bor (List ℕ)). x.now) in
      let m : count ≡ length (names_seen old) = omega arith in
      ap (take count) all ∙ ap (λ k. take k (names_seen old ++ more)) m ∙ take-append-le (length (names_seen old)) (names_seen old) more (omega arith) ∙ take-length (names_seen old)
