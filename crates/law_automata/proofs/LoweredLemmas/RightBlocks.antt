-- Right clocks of blocks, equations, arms and states, before and after.
use Rattle.std.proofs.Common.{◌≡◌, ℕ, Bool, true, false, not, ◌&&◌, ◌||◌, List, [], ◌∷◌, ◌++◌, Some, option_map, inl, inr, refl, sym, ap, ◌∙◌}
use Rattle.std.specs.Prelude.{IsTrue, if◌then◌else◌}
use Rattle.std.specs.Str.{bytes_eq}
use Rattle.std.proofs.lemmas.List.{append-nil}
use Rattle.hp_base.specs.declared.span.Span.{Span}
use Rattle.hp_tree.specs.Blocks.{Decl, Block, block, Eqns, Eqn, eqns_of}
use Rattle.hp_tree.specs.Meaning.{declares, defines, some_defines, block_defines, clock_in, written}
use Rattle.hp_meaning.specs.Causal.Clocked.{Standing, base_alone, standing_in, DefinesOnBase, BlockRight, AllRight, OneRight}
use Rattle.hp_tables.specs.Defining.Names.{outer_names}
use Rattle.hp_automata.specs.Names.{is_name, missing}
use Rattle.hp_automata.specs.Renaming.{renamed_path, renamed_decls}
use Rattle.hp_automata.specs.Lowering.{Types, Enumerations, declaring, all_kept, lowered_block, lowered_eqns, lowered_eqn}
use Rattle.law_automata.specs.Lowered.OldNames.{IsOld}
use Rattle.law_automata.specs.Lowered.Removable.{Known, BlockOk, EqnsOk, EqnOk}
use Rattle.law_automata.proofs.LoweredLemmas.Tests.{or_right, or_none, or_first, or_second, and_first, and_not, true_false, name_missing}
use Rattle.law_automata.proofs.LoweredLemmas.Renaming.{Renames, local, not_local, declares_renamed}
use Rattle.law_automata.proofs.LoweredLemmas.Lookups.{with_names, eqn_sound}
use Rattle.law_automata.proofs.LoweredLemmas.Defined.{equations_complete, eqns_complete, outward, block_same}
use Rattle.law_automata.proofs.LoweredLemmas.Around.{Undone}
use Rattle.law_automata.proofs.LoweredLemmas.BlockMaking.{ClocksSame, clock_kept, clock_old}
use Rattle.law_automata.proofs.LoweredLemmas.RightExpressions.{declarations_right, base_same, kept_right}

-- what is declared nowhere counts as on the base clock
pub clock_none : (ds : List Decl) (x : List ℕ) → declares ds x ≡ false → clock_in ds x ≡ []
clock_none [] x h = refl
clock_none (d ∷ ds) x h = ap (λ t. if t then written d.clock else clock_in ds x) (or_first (bytes_eq d.name x) (declares ds x) h) ∙ clock_none ds x (or_second (bytes_eq d.name x) (declares ds x) h)

-- what is known around a block
pub record RightAround (outer : Known) (d : ℕ) (to : List ℕ → List ℕ) (xs : List (List ℕ)) (b : Block) (out out' : Standing) : Type 0 where
  pub renames : Renames outer d to
  pub undone : Undone to
  pub ok : BlockOk outer d b
  pub own : (x : List ℕ) → is_name xs x ≡ true → outer x ≡ true
  pub old : (x : List ℕ) → is_name xs x ≡ true → IsOld x
  pub out_same : (x : List ℕ) → IsOld x → with_names xs b x ≡ false → base_alone (out' (to x)) ≡ base_alone (out x)
  pub kept_base : (x : List ℕ) → is_name xs x ≡ true → out x ≡ Some []

module _ {outer : Known} {d : ℕ} {to : List ℕ → List ℕ} {xs : List (List ℕ)} {ds : List Decl} {es : Eqns} {out out' : Standing} (a : RightAround outer d to xs (block ds es) out out') (ds' : List Decl) (es' : Eqns) (clocks : ClocksSame to ds ds')
    (defined : (x : List ℕ) → IsOld x → some_defines es' (to x) ≡ (some_defines es x || is_name xs x)) where
  undeclared : (x : List ℕ) → some_defines es x ≡ false → declares ds x ≡ false
  undeclared x h = by (declares ds x) refl
    where
      by : (t : Bool) → declares ds x ≡ t → t ≡ false
      by true q = absurd (true_false (some_defines es x) (local outer es ds a.ok.0 x q).defined h)
      by false q = refl

  same_by : (x : List ℕ) → IsOld x → (t q : Bool) → some_defines es x ≡ t → is_name xs x ≡ q → (if (t || q) then Some (clock_in ds' (to x)) else base_alone (out' (to x))) ≡ option_map (renamed_path to) (if t then Some (clock_in ds x) else base_alone (out x))
  same_by x o true q h g = ap Some (clocks.same x o)
  same_by x o false true h g =
      ap Some (clocks.same x o ∙ ap (renamed_path to) (clock_none ds x (undeclared x h))) ∙ sym (ap (λ v. option_map (renamed_path to) (base_alone v)) (a.kept_base x g))
  same_by x o false false h g =
      a.out_same x o (or_none (block_defines (block ds es) x) (is_name xs x) (ap (λ t. t && not (declares ds x)) h) g) ∙ sym (base_same to (out x))

  pub standing_same : (x : List ℕ) → IsOld x → standing_in ds' es' out' (to x) ≡ option_map (renamed_path to) (standing_in ds es out x)
  standing_same x o =
      ap (λ t. if t then Some (clock_in ds' (to x)) else base_alone (out' (to x))) (defined x o) ∙ same_by x o (some_defines es x) (is_name xs x) refl refl

-- ---- what stands for the names of a block is defined, and nothing else
module _ (enums : Enumerations) (tys : Types) (s : Span) {outer : Known} {d : ℕ} {to : List ℕ → List ℕ} {xs : List (List ℕ)} {ds : List Decl} {es : Eqns} {out out' : Standing} (a : RightAround outer d to xs (block ds es) out out') where
  abbrev pub made : List Eqn
  made = lowered_eqns enums to (declaring tys ds) d es ++ all_kept to s xs (block ds es)

  pub made_defines : (x : List ℕ) → IsOld x → some_defines (eqns_of made) (to x) ≡ (some_defines es x || is_name xs x)
  made_defines x o = by (some_defines es x) (is_name xs x) refl refl
    where
      none_declared : some_defines es x ≡ false → declares ds x ≡ false
      none_declared h = no_by (declares ds x) refl
        where
          no_by : (t : Bool) → declares ds x ≡ t → t ≡ false
          no_by true q = absurd (true_false (some_defines es x) (local outer es ds a.ok.0 x q).defined h)
          no_by false q = refl

      not_made : (t : Bool) → some_defines (eqns_of made) (to x) ≡ t → some_defines es x ≡ false → is_name xs x ≡ false → t ≡ false
      not_made true q h g =
          absurd (true_false (with_names xs (block ds es) x)
          (sym (block_same enums a.renames tys s xs (block ds es) a.ok a.own a.old x o) ∙ and_not _ _ q (declares_renamed to ds (to x) ∙ not_local a.renames es ds a.ok.0 x o (none_declared h)))
          (or_none (block_defines (block ds es) x) (is_name xs x) (ap (λ t. t && not (declares ds x)) h) g))
      not_made false q h g = refl

      by : (t q : Bool) → some_defines es x ≡ t → is_name xs x ≡ q → some_defines (eqns_of made) (to x) ≡ (t || q)
      by true q h g = equations_complete enums a.renames s xs ds es a.ok.0 a.own (lowered_eqns enums to (declaring tys ds) d es) x (eqns_complete enums a.renames (declaring tys ds) es a.ok.1 x o) (inl h)
      by false true h g = equations_complete enums a.renames s xs ds es a.ok.0 a.own (lowered_eqns enums to (declaring tys ds) d es) x (eqns_complete enums a.renames (declaring tys ds) es a.ok.1 x o) (inr g)
      by false false h g = not_made (some_defines (eqns_of made) (to x)) refl h g

  -- a name that is left out is on the base clock there
  pub left_base : (ds' : List Decl) → ClocksSame to ds ds' → (x : List ℕ) → is_name (missing (is_name (outer_names (block ds es))) xs) x ≡ true → clock_in ds' (to x) ≡ []
  left_base ds' clocks x q =
      let mine : is_name xs x ≡ true = and_first (is_name xs x) _ (sym (name_missing (is_name (outer_names (block ds es))) xs x) ∙ q) in
      clocks.same x (a.old x mine) ∙ ap (renamed_path to) (clock_none ds x (outward enums a.renames s xs ds es a.ok.0 a.own x (or_right (block_defines (block ds es) x) (is_name xs x) mine)))

  pub plain_clocks : ClocksSame to ds (renamed_decls to ds)
  plain_clocks = record { same = λ y o. ap (λ z. clock_in z (to y)) (sym (append-nil (renamed_decls to ds))) ∙ clock_kept to a.renames es ds [] a.ok.0 tt y o; old = clock_old to outer es ds a.ok.0 }

  -- the block, where its equations are right
  pub block_by : BlockRight out (block ds es) → (((x : List ℕ) → IsOld x → standing_in (renamed_decls to ds) (eqns_of made) out' (to x) ≡ option_map (renamed_path to) (standing_in ds es out x))
      → AllRight (standing_in (renamed_decls to ds) (eqns_of made) out') (renamed_decls to ds) (eqns_of made)) → BlockRight out' (lowered_block enums to tys d s xs (block ds es))
  block_by h ih =
      let same = standing_same a (renamed_decls to ds) (eqns_of made) plain_clocks made_defines in
      (declarations_right to (standing_in ds es out) (standing_in (renamed_decls to ds) (eqns_of made) out') same outer es ds a.ok.0 h.0, ih same)

-- ---- equations

-- what is known around an equation of a block
pub record RightIn (outer : Known) (d : ℕ) (to : List ℕ → List ℕ) (ds ds' : List Decl) (names names' : Standing) : Type 0 where
  pub renames : Renames outer d to
  pub undone : Undone to
  pub clocks : ClocksSame to ds ds'
  pub same : (x : List ℕ) → IsOld x → names' (to x) ≡ option_map (renamed_path to) (names x)

module _ (enums : Enumerations) where
  abbrev pub EqnRight : Eqn → Type 0
  EqnRight e =
      (outer : Known) (d : ℕ) (to : List ℕ → List ℕ) (ds ds' : List Decl) (names names' : Standing) → RightIn outer d to ds ds' names names' → (tys : Types) → EqnOk outer d e → ((x : List ℕ) → defines e x ≡ true → names x ≡ Some (clock_in ds x))
      → OneRight names ds e → OneRight names' ds' (lowered_eqn enums to tys d e)

  abbrev pub EqnsRight : Eqns → Type 0
  EqnsRight es =
      (outer : Known) (d : ℕ) (to : List ℕ → List ℕ) (ds ds' : List Decl) (names names' : Standing) → RightIn outer d to ds ds' names names' → (tys : Types) (more : List Eqn) → AllRight names' ds' (eqns_of more) → EqnsOk outer d es
      → ((x : List ℕ) → some_defines es x ≡ true → names x ≡ Some (clock_in ds x)) → AllRight names ds es → AllRight names' ds' (eqns_of (lowered_eqns enums to tys d es ++ more))

  abbrev pub BlockKept : Block → Type 0
  BlockKept b = (outer : Known) (d : ℕ) (to : List ℕ → List ℕ) (xs : List (List ℕ)) (out out' : Standing) → RightAround outer d to xs b out out' → (tys : Types) (s : Span) → BlockRight out b → BlockRight out' (lowered_block enums to tys d s xs b)

  -- what is defined is on the base clock
  pub defines_base : {outer : Known} {d : ℕ} {to : List ℕ → List ℕ} {ds ds' : List Decl} {names names' : Standing} → RightIn outer d to ds ds' names names' → (tys : Types) (e : Eqn) → EqnOk outer d e → DefinesOnBase ds e → DefinesOnBase ds' (lowered_eqn enums to tys d e)
  defines_base {outer} {d} {to} {ds} {ds'} a tys e ok h y q =
      let stood = eqn_sound enums a.renames tys e ok y (of_true (defines (lowered_eqn enums to tys d e) y) q) in
      ap (clock_in ds') stood.is ∙ a.clocks.same stood.name stood.old ∙ ap (renamed_path to) (h stood.name (to_true (defines e stood.name) stood.own))
    where
      of_true : (b : Bool) → IsTrue b → b ≡ true
      of_true true h = refl
      of_true false h = absurd cc

      to_true : (b : Bool) → b ≡ true → IsTrue b
      to_true true h = refl
      to_true false h = absurd cc

  pub block_kept_by : (ds : List Decl) (es : Eqns) → EqnsRight es → BlockKept (block ds es)
  block_kept_by ds es ih outer d to xs out out' a tys s h =
      block_by enums tys s a h
      (λ same. ih outer d to ds (renamed_decls to ds) (standing_in ds es out) (standing_in (renamed_decls to ds) (eqns_of (made enums tys s a)) out')
      (record { renames = a.renames; undone = a.undone; clocks = plain_clocks enums tys s a; same = same }) (declaring tys ds) (all_kept to s xs (block ds es))
      (kept_right (standing_in (renamed_decls to ds) (eqns_of (made enums tys s a)) out') (renamed_decls to ds) to s (missing (is_name (outer_names (block ds es))) xs) (left_base enums tys s a (renamed_decls to ds) (plain_clocks enums tys s a)))
      a.ok.1 (λ x q. ap (λ t. if t then Some (clock_in ds x) else base_alone (out x)) q) h.1)
