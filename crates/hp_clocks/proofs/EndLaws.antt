-- How the parts of a block are put together, as the pass over a node goes.
use Rattle.std.proofs.Common.{◌≡◌, ℕ, ◌+◌, ◌<◌, ◌≤◌, List, [], ◌∷◌, ◌++◌, length, drop, map, reverse, get_or, refl, sym, ap, ◌∙◌, subst, arith, append_assoc, length-append}
use Rattle.std.proofs.lemmas.List.{length-map}
use Rattle.std.specs.Prelude.{⊤, Option, None, Some, Result, Ok, Err, OnOk}
use Rattle.hp_tree.specs.Blocks.{Decl, Block, block, Eqns, eqns_of, arms_of, states_of}
use Rattle.hp_tree.specs.BlockView.{eqn_seen, arm_seen, state_seen}
use Rattle.hp_tree.specs.declared.block.Eqn as code_eqn
use Rattle.hp_tree.specs.declared.block.Arm as code_arm
use Rattle.hp_tree.specs.declared.block.State as code_state
use Rattle.hp_tree.specs.Instant.{Clock}
use Rattle.hp_tree.specs.Sizes.{lines, lines_of_eqns}
use Rattle.hp_clocks.specs.declared.cell.Cell.{Cell}
use Rattle.hp_clocks.specs.declared.solve.Unsolved.{Unsolved}
use Rattle.hp_clocks.specs.Cells.{AreCells}
use Rattle.hp_clocks.specs.Scopes.{Sight}
use Rattle.hp_clocks.specs.declared.layer.Layer.{Layer}
use Rattle.hp_clocks.specs.Layers.{sight}
use Rattle.hp_clocks.specs.Names.{with_more}
use Rattle.hp_clocks.specs.Units.{CellUnit, declared, size, size_of, size_of_all, cell_of, sight_in, sight_of, declarations, conditions, units, units_of_all, units_of_one, units_of_arms, units_of_states, locals, locals_in_all, locals_in_one, locals_in_arms, locals_in_states, rights, rights_in_all, rights_in_one, rights_in_arms, rights_in_states, tests, Right}
use Rattle.hp_clocks.specs.Putting.{Solves, IsReady, own_size, own_locals, declared_unit, declared_units}
use Rattle.hp_clocks.proofs.Leading.{drop_next}
use Rattle.hp_clocks.proofs.NamedLaws.{more-append, more-is}
use Rattle.hp_clocks.proofs.BoundLaws.{sight_there}

-- ---- what is ready stays so

-- ---- declarations

pub declared_is : (see : Sight) (es : Eqns) (k : ℕ) (all ds : List Decl) → declarations see es k all ds ≡ declared_units see (map (λ d. cell_of es k all d) ds) ds
declared_is see es k all [] = refl
declared_is see es k all (d ∷ ds) = tie d.clock ∙ ap (λ more. declared_unit see (cell_of es k all d) d ++ more) (declared_is see es k all ds)
  where
    tie : (o : Option Clock)
        → (elim o [ None ↦ declarations see es k all ds | Some path ↦ declared d.span see (cell_of es k all d) (reverse path) ∷ declarations see es k all ds ])
        ≡ (elim o [ None ↦ [] | Some path ↦ declared d.span see (cell_of es k all d) (reverse path) ∷ [] ]) ++ declarations see es k all ds
    tie None = refl
    tie (Some path) = refl

-- ---- one more part

module _ (see : Sight) (k m : ℕ) where
  pub eqns_next : (es : List code_eqn.Eqn) (i : ℕ) (e : code_eqn.Eqn) → i < length es → e ≡ get_or es i e → m ≡ k + size_of (eqn_seen e) → units_of_all k (eqns_of (map eqn_seen (drop i es))) see ≡ units_of_one k (eqn_seen e) see ++ units_of_all m (eqns_of (map eqn_seen (drop (i + 1) es))) see
  eqns_next es i e h p q =
      ap (λ more. units_of_all k (eqns_of (map eqn_seen more)) see) (drop_next es i e h p)
      ∙ ap (λ j. units_of_one k (eqn_seen e) see ++ units_of_all j (eqns_of (map eqn_seen (drop (i + 1) es))) see) (sym q)

  pub arms_next : (arms : List code_arm.Arm) (i : ℕ) (a : code_arm.Arm) → i < length arms → a ≡ get_or arms i a → m ≡ k + size a.body → units_of_arms k (arms_of (map arm_seen (drop i arms))) see ≡ units k a.body see ++ units_of_arms m (arms_of (map arm_seen (drop (i + 1) arms))) see
  arms_next arms i a h p q =
      ap (λ more. units_of_arms k (arms_of (map arm_seen more)) see) (drop_next arms i a h p)
      ∙ ap (λ j. units k a.body see ++ units_of_arms j (arms_of (map arm_seen (drop (i + 1) arms))) see) (sym q)

  abbrev pub of_state : code_state.State → List CellUnit
  of_state s = units k s.body see ++ (conditions (sight_of k s.body see) s.until.items ++ conditions see s.unless.items)

  pub states_next : (qs : List code_state.State) (i : ℕ) (s : code_state.State) → i < length qs → s ≡ get_or qs i s → m ≡ k + size s.body → units_of_states k (states_of (map state_seen (drop i qs))) see ≡ of_state s ++ units_of_states m (states_of (map state_seen (drop (i + 1) qs))) see
  states_next qs i s h p q =
      let rest = units_of_states m (states_of (map state_seen (drop (i + 1) qs))) see in
      let until = conditions (sight_of k s.body see) s.until.items in
      let unless = conditions see s.unless.items in
      ap (λ more. units_of_states k (states_of (map state_seen more)) see) (drop_next qs i s h p)
      ∙ ap (λ j. units k s.body see ++ (until ++ (unless ++ units_of_states j (states_of (map state_seen (drop (i + 1) qs))) see))) (sym q)
      ∙ ap (λ more. units k s.body see ++ more) (sym (append_assoc until unless rest))
      ∙ sym (append_assoc (units k s.body see) (until ++ unless) rest)

-- lists that grow by one more part
module _ (before after : List ℕ) (k m : ℕ) where
  pub eqns_locals : (es : List code_eqn.Eqn) (i : ℕ) (e : code_eqn.Eqn) → i < length es → e ≡ get_or es i e → m ≡ k + size_of (eqn_seen e) → after ≡ with_more before (locals_in_one k (eqn_seen e)) → with_more after (locals_in_all m (eqns_of (map eqn_seen (drop (i + 1) es)))) ≡ with_more before (locals_in_all k (eqns_of (map eqn_seen (drop i es))))
  eqns_locals es i e h p q made =
      let rest = eqns_of (map eqn_seen (drop (i + 1) es)) in
      ap (λ z. with_more z (locals_in_all m rest)) made
      ∙ ap (λ j. with_more (with_more before (locals_in_one k (eqn_seen e))) (locals_in_all j rest)) q
      ∙ sym (more-append before (locals_in_one k (eqn_seen e)) (locals_in_all (k + size_of (eqn_seen e)) rest))
      ∙ sym (ap (λ more. with_more before (locals_in_all k (eqns_of (map eqn_seen more)))) (drop_next es i e h p))

  pub arms_locals : (arms : List code_arm.Arm) (i : ℕ) (a : code_arm.Arm) → i < length arms → a ≡ get_or arms i a → m ≡ k + size a.body → after ≡ with_more before (locals k a.body) → with_more after (locals_in_arms m (arms_of (map arm_seen (drop (i + 1) arms)))) ≡ with_more before (locals_in_arms k (arms_of (map arm_seen (drop i arms))))
  arms_locals arms i a h p q made =
      let rest = arms_of (map arm_seen (drop (i + 1) arms)) in
      ap (λ z. with_more z (locals_in_arms m rest)) made
      ∙ ap (λ j. with_more (with_more before (locals k a.body)) (locals_in_arms j rest)) q
      ∙ sym (more-append before (locals k a.body) (locals_in_arms (k + size a.body) rest))
      ∙ sym (ap (λ more. with_more before (locals_in_arms k (arms_of (map arm_seen more)))) (drop_next arms i a h p))

  pub states_locals : (qs : List code_state.State) (i : ℕ) (s : code_state.State) → i < length qs → s ≡ get_or qs i s → m ≡ k + size s.body → after ≡ with_more before (locals k s.body) → with_more after (locals_in_states m (states_of (map state_seen (drop (i + 1) qs)))) ≡ with_more before (locals_in_states k (states_of (map state_seen (drop i qs))))
  states_locals qs i s h p q made =
      let rest = states_of (map state_seen (drop (i + 1) qs)) in
      ap (λ z. with_more z (locals_in_states m rest)) made
      ∙ ap (λ j. with_more (with_more before (locals k s.body)) (locals_in_states j rest)) q
      ∙ sym (more-append before (locals k s.body) (locals_in_states (k + size s.body) rest))
      ∙ sym (ap (λ more. with_more before (locals_in_states k (states_of (map state_seen more)))) (drop_next qs i s h p))

module _ (before after : List Right) (k m : ℕ) where
  pub eqns_rights : (es : List code_eqn.Eqn) (i : ℕ) (e : code_eqn.Eqn) → i < length es → e ≡ get_or es i e → m ≡ k + size_of (eqn_seen e) → after ≡ with_more before (rights_in_one k (eqn_seen e)) → with_more after (rights_in_all m (eqns_of (map eqn_seen (drop (i + 1) es)))) ≡ with_more before (rights_in_all k (eqns_of (map eqn_seen (drop i es))))
  eqns_rights es i e h p q made =
      let rest = eqns_of (map eqn_seen (drop (i + 1) es)) in
      ap (λ z. with_more z (rights_in_all m rest)) made
      ∙ ap (λ j. with_more (with_more before (rights_in_one k (eqn_seen e))) (rights_in_all j rest)) q
      ∙ sym (more-append before (rights_in_one k (eqn_seen e)) (rights_in_all (k + size_of (eqn_seen e)) rest))
      ∙ sym (ap (λ more. with_more before (rights_in_all k (eqns_of (map eqn_seen more)))) (drop_next es i e h p))

  pub arms_rights : (arms : List code_arm.Arm) (i : ℕ) (a : code_arm.Arm) → i < length arms → a ≡ get_or arms i a → m ≡ k + size a.body → after ≡ with_more before (rights k a.body) → with_more after (rights_in_arms m (arms_of (map arm_seen (drop (i + 1) arms)))) ≡ with_more before (rights_in_arms k (arms_of (map arm_seen (drop i arms))))
  arms_rights arms i a h p q made =
      let rest = arms_of (map arm_seen (drop (i + 1) arms)) in
      ap (λ z. with_more z (rights_in_arms m rest)) made
      ∙ ap (λ j. with_more (with_more before (rights k a.body)) (rights_in_arms j rest)) q
      ∙ sym (more-append before (rights k a.body) (rights_in_arms (k + size a.body) rest))
      ∙ sym (ap (λ more. with_more before (rights_in_arms k (arms_of (map arm_seen more)))) (drop_next arms i a h p))

  pub states_rights : (qs : List code_state.State) (i : ℕ) (s : code_state.State) → i < length qs → s ≡ get_or qs i s → m ≡ k + size s.body → after ≡ with_more before (rights k s.body ++ (tests s.until.items ++ tests s.unless.items)) → with_more after (rights_in_states m (states_of (map state_seen (drop (i + 1) qs)))) ≡ with_more before (rights_in_states k (states_of (map state_seen (drop i qs))))
  states_rights qs i s h p q made =
      let rest = states_of (map state_seen (drop (i + 1) qs)) in
      let mine = rights k s.body ++ (tests s.until.items ++ tests s.unless.items) in
      ap (λ z. with_more z (rights_in_states m rest)) made
      ∙ ap (λ j. with_more (with_more before mine) (rights_in_states j rest)) q
      ∙ sym (more-append before mine (rights_in_states (k + size s.body) rest))
      ∙ ap (λ z. with_more before z)
      (append_assoc (rights k s.body) (tests s.until.items ++ tests s.unless.items) (rights_in_states (k + size s.body) rest)
      ∙ ap (λ z. rights k s.body ++ z) (append_assoc (tests s.until.items) (tests s.unless.items) (rights_in_states (k + size s.body) rest)))
      ∙ sym (ap (λ more. with_more before (rights_in_states k (states_of (map state_seen more)))) (drop_next qs i s h p))

-- ---- a block that has been entered

pub block_units : (k : ℕ) (b : Block) (ds : List Decl) (es : Eqns) (out inner : Sight) (is : List ℕ) → block ds es ≡ b → inner ≡ sight_of k b out → is ≡ own_locals k b → declared_units inner is ds ++ units_of_all (k + length ds) es inner ≡ units k b out
block_units k b ds es out inner is e f g =
    let f2 : inner ≡ sight_in k ds es out = f ∙ ap (λ z. sight_of k z out) (sym e) in
    let g2 : is ≡ map (λ d. cell_of es k ds d) ds = g ∙ ap (own_locals k) (sym e) in
    ap (λ z. declared_units z is ds ++ units_of_all (k + length ds) es z) f2
    ∙ ap (λ z. declared_units (sight_in k ds es out) z ds ++ units_of_all (k + length ds) es (sight_in k ds es out)) g2
    ∙ ap (λ z. z ++ units_of_all (k + length ds) es (sight_in k ds es out)) (sym (declared_is (sight_in k ds es out) es k ds ds))
    ∙ ap (λ z. units k z out) e

-- ---- what is ready, where the parts are known by other names

pub ready_now : (n m : ℕ) (cs : List Cell) (ls now : List Layer) (bs : List Cell) → m ≡ n → now ≡ ls → IsReady n bs (sight ls) → AreCells cs → n ≤ length cs → IsReady m cs (sight now)
ready_now n m cs ls now bs e f r a h =
    subst (λ z. IsReady z cs (sight now)) (sym e)
    (subst (λ z. IsReady n cs (sight z)) (sym f) (record { cells = a; floor = h; some = r.some; there = r.there }))

pub ready_entered : (n m : ℕ) (cs ds : List Cell) (k : ℕ) (b : Block) (out inner : Sight) → m ≡ n → ds ≡ cs → inner ≡ sight_of k b out → k + own_size b ≤ n → IsReady n cs out → IsReady m ds inner
ready_entered n m cs ds k b out inner e f g h r =
    subst (λ z. IsReady z ds inner) (sym e)
    (subst (λ z. IsReady n z inner) (sym f)
    (subst (λ z. IsReady n cs z) (sym g) (record { cells = r.cells; floor = r.floor; some = r.some; there = sight_there n r.some k b out h r.there })))

-- a block's own locals in the list of all
drop_old : {A : Type 0} (xs ys : List A) → drop (length xs) (xs ++ ys) ≡ ys
drop_old [] ys = refl
drop_old (x ∷ xs) ys = drop_old xs ys

many_own : (k : ℕ) (b : Block) → length (own_locals k b) ≡ own_size b
many_own k (block ds es) = length-map ds (λ d. cell_of es k ds d)

module _ (old new : List ℕ) (k : ℕ) (b : Block) (first : ℕ) (f : first ≡ length old) (e : new ≡ with_more old (own_locals k b)) where
  pub own_many : first + own_size b ≡ length new
  own_many =
      let a : length new ≡ length old + length (own_locals k b) = ap length (e ∙ more-is old (own_locals k b)) ∙ length-append old (own_locals k b) in
      let c : length (own_locals k b) ≡ own_size b = many_own k b in
      omega (arith, a, c, f)

  pub own_listed : drop first new ≡ own_locals k b
  own_listed =
      ap (λ i. drop i new) f ∙ ap (λ z. drop (length old) z) (e ∙ more-is old (own_locals k b)) ∙ drop_old old (own_locals k b)

pub own_size_is : (b : Block) (ds : List Decl) (es : Eqns) → block ds es ≡ b → own_size b ≡ length ds
own_size_is b ds es e = sym (ap own_size e)

pub size_is : (b : Block) (ds : List Decl) (es : Eqns) → block ds es ≡ b → size b ≡ length ds + size_of_all es
size_is b ds es e = sym (ap size e)

-- what is ready where all went well
pub ready_end : (n m v : ℕ) (cs ds : List Cell) (ls now : List Layer) (us : List CellUnit) (r : Result ⊤ Unsolved) → IsReady m cs (sight ls) → Solves m cs ds us r → OnOk r (v ≡ m) → OnOk r (now ≡ ls) → OnOk r (IsReady v ds (sight now))
ready_end n m v cs ds ls now us (Ok x) k s e f =
    let h : m ≤ length cs = k.floor in
    let l : length cs ≤ length ds = s.grows.longer in
    ready_now m v ds ls now cs e f k s.grows.cells (omega (arith, h, l))
ready_end n m v cs ds ls now us (Err x) k s e f = tt

pub lines_is : (b : Block) (ds : List Decl) (es : Eqns) → block ds es ≡ b → lines b ≡ lines_of_eqns es + 1
lines_is b ds es e = sym (ap lines e)
