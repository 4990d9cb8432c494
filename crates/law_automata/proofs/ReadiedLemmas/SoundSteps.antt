-- Programs without automata are sound, by one induction.
use Rattle.std.proofs.Common.{◌≡◌, ℕ, ◌⊎◌, inl, inr, ⊎_elim, Bool, true, false, ◌&&◌, not, List, [], ◌∷◌, ◌++◌, map, refl, sym, ap, ◌∙◌, subst}
use Rattle.std.specs.Prelude.{IsTrue, IsFalse, Option, Some}
use Rattle.std.specs.Str.{bytes_eq}
use Rattle.hp_base.specs.declared.span.Span.{Span}
use Rattle.hp_base.specs.declared.ty.Ty.{Ty}
use Rattle.hp_tree.specs.declared.block.Trans.{Trans}
use Rattle.hp_tree.specs.Expressions.{variable}
use Rattle.hp_tree.specs.Blocks.{Decl, Block, block, Eqns, Eqn, reset, Arms, no_arm, more_arms, States, eqns_of}
use Rattle.hp_tree.specs.Programs.{TypeDecl, Node}
use Rattle.hp_tree.specs.Meaning.{declares, some_defines, block_defines}
use Rattle.hp_base.specs.Known.Known.{lookup}
use Rattle.hp_typing.specs.Scopes.{with_variables}
use Rattle.law_judged.specs.Named.Scopes.{Scope}
use Rattle.law_judged.specs.Named.Scoped.{Names, also, BlockScoped}
use Rattle.law_judged.proofs.NamedLemmas.Sets.{or_left, or_right}
use Rattle.law_judged.proofs.NamedLemmas.Declared.{eqn_owned}
use Rattle.law_values.specs.Valued.Judged.{Lasts, lasts_in, of_arms, HaveOwnTypes, DeclsSound, TestsSound, BlockSound, EqnsSound}
use Rattle.law_values.proofs.AcceptedLemmas.Views.{own_types, lasts_kept}
use Rattle.hp_tables.specs.Defining.Names.{outer_names}
use Rattle.hp_automata.specs.Names.{is_name, missing}
use Rattle.hp_automata.specs.Renaming.{renamed_decls}
use Rattle.hp_automata.specs.Lowering.{Types, Enumerations, declaring, kept, all_kept, lowered_block, lowered_eqns, lowered_arms}
use Rattle.law_automata.specs.Lowered.OldNames.{IsOld}
use Rattle.law_automata.specs.Lowered.Removable.{Known, TransitionsOk, BlockOk}
use Rattle.law_automata.proofs.LoweredLemmas.Apart.{new_is_new, bytes_same}
use Rattle.law_automata.proofs.LoweredLemmas.Defined.{eqns_complete}
use Rattle.law_automata.proofs.LoweredLemmas.Lookups.{block_sound as defined_in}
use Rattle.law_automata.proofs.LoweredLemmas.Renaming.{Renames, declares_renamed, local, local_kept}
use Rattle.law_automata.proofs.LoweredLemmas.Tests.{or_cases, and_first, and_second, and_not, not_true, name_first, name_missing, names_outer, true_false, some_append}
use Rattle.law_automata.specs.Readied.Constants.{HasConstant, DeclTypes}
use Rattle.law_automata.proofs.ReadiedLemmas.Places.{scope_renamed, lasts_renamed, Place, place_block}
use Rattle.law_automata.proofs.ReadiedLemmas.SoundExpressions.{test_sound}
use Rattle.law_automata.proofs.ReadiedLemmas.SoundStates.{Firsts, decls_sound, ListSound, row_sound, both_sound, TestsGive}

module _ (types : List TypeDecl) (among : List ℕ → Option Node) (enums : Enumerations) (base : Scope) where
  -- ---- declarations

  own_renamed : (r : Scope) (to : List ℕ → List ℕ) (ds : List Decl) → HaveOwnTypes types among r ds → HaveOwnTypes types among r (renamed_decls to ds)
  own_renamed r to [] h = tt
  own_renamed r to (d ∷ ds) h = (h.0, own_renamed r to ds h.1)

  pub firsts_renamed : (to : List ℕ → List ℕ) (s : Scope) (es : Eqns) (ds : List Decl) → DeclsSound types among s es ds → Firsts types among (renamed_decls to ds)
  firsts_renamed to s es [] h = tt
  firsts_renamed to s es (d ∷ ds) h = (h.0.1.1, firsts_renamed to s es ds h.1)

  pub arms_conses : (to : List ℕ → List ℕ) (tys : Types) (d : ℕ) (xs : List (List ℕ)) (arms : Arms) → of_arms (lowered_arms enums to tys d xs arms) ≡ of_arms arms
  arms_conses to tys d xs no_arm = refl
  arms_conses to tys d xs (more_arms c b s arms) = ap (λ cs. c ∷ cs) (arms_conses to tys d xs arms)

  abbrev At : ℕ → (List ℕ → List ℕ) → Types → Scope → Scope → Lasts → Lasts → Names → Names → Type 0
  At d to tys s r lasts lasts' seen own = Place types among enums base d to tys s r lasts lasts' seen own

  -- what is defined by a block is to be defined there
  block_owned : (seen own : Names) (b : Block) (x : List ℕ) → BlockScoped seen own b → block_defines b x ≡ true → IsTrue (own x)
  block_owned seen own b x s h = eqn_owned x seen own (reset (record { line = 0; col = 0; end = 0 }) b (variable (record { line = 0; col = 0; end = 0 }) [])) s h

  module _ {d : ℕ} {to : List ℕ → List ℕ} {tys : Types} {s r : Scope} {lasts lasts' : Lasts} {seen own : Names} (p : At d to tys s r lasts lasts' seen own) where
    -- conditions, where they are read
    pub tests_give : (all : States) (ts : List Trans) → TransitionsOk all ts → TestsSound types among s lasts ts → TestsGive types among r lasts' to ts
    tests_give all [] ok h = tt
    tests_give all (t ∷ ts) ok h = ((test_sound types among s r p.grows to lasts lasts' p.names p.itself p.lasting t.cond h.0, ok.0.1), tests_give all ts ok.1 h.1)

    -- names that keep their last values
    pub kept_sound : (sp : Span) (xs : List (List ℕ)) → ((x : List ℕ) → is_name xs x ≡ true → IsTrue (seen x) × IsTrue (lasts' x)) → ListSound types among r lasts' (map (kept to sp) xs)
    kept_sound sp [] h = tt
    kept_sound sp (x ∷ xs) h =
        let mine = h x (name_first x xs x ∙ or_left (bytes_eq x x) (is_name xs x) (bytes_same x)) in
        let k = p.known x mine.0 in
        ((mine.1, (k.0, (p.itself x k.0 k.1, (p.names x k.0 k.1, tt)))), kept_sound sp xs (λ z q. h z (name_first x xs z ∙ or_right (bytes_eq x z) (is_name xs z) q)))

  -- which names a block leaves to their last values
  pub left_is : (b : Block) (xs : List (List ℕ)) (x : List ℕ) → is_name (missing (is_name (outer_names b)) xs) x ≡ true → (is_name xs x ≡ true) × (block_defines b x ≡ false)
  left_is b xs x h =
      let both : (is_name xs x && not (is_name (outer_names b) x)) ≡ true = sym (name_missing (is_name (outer_names b)) xs x) ∙ h in
      (and_first (is_name xs x) _ both, sym (names_outer b x) ∙ not_true (is_name (outer_names b) x) (and_second (is_name xs x) _ both))

  pub left_last : (lasts : Lasts) (b : Block) (x : List ℕ) → block_defines b x ≡ false → (block_defines b x ≡ true) ⊎ IsTrue (lasts x) → IsTrue (lasts x)
  left_last lasts b x n (inl q) = absurd (true_false (block_defines b x) q n)
  left_last lasts b x n (inr q) = q

  -- ---- blocks, whose equations are known

  module _ {outer : Known} {d : ℕ} {to : List ℕ → List ℕ} (rn : Renames outer d to) {tys : Types} {s r : Scope} {lasts lasts' : Lasts} {seen own : Names} (p : At d to tys s r lasts lasts' seen own) (sp : Span) (xs : List (List ℕ)) (ds : List Decl) (es : Eqns)
      (ok : BlockOk outer d (block ds es)) (sc : BlockScoped seen own (block ds es)) (has : DeclTypes (HasConstant enums base) ds) (sound : BlockSound types among s lasts (block ds es)) (mine : (x : List ℕ) → is_name xs x ≡ true → IsTrue (own x))
      (completes : (x : List ℕ) → is_name xs x ≡ true → (block_defines (block ds es) x ≡ true) ⊎ IsTrue (lasts x)) where
    declared_old : (x : List ℕ) → IsTrue (declares ds x) → IsOld x
    declared_old x h = (local outer es ds ok.0 x h).old

    pub within_block : At d to (declaring tys ds) (with_variables s ds) (with_variables r ds) (lasts_in ds lasts) (lasts_in ds lasts') (also seen ds) (also own ds)
    within_block = place_block types among enums base p rn es ds ok.0 sc.0 sc.1 has declared_old

    abbrev made : List Eqn
    made = lowered_eqns enums to (declaring tys ds) d es

    abbrev left : List Eqn
    left = all_kept to sp xs (block ds es)

    own_here : HaveOwnTypes types among (with_variables r ds) (renamed_decls to ds)
    own_here = own_renamed (with_variables r ds) to ds (own_types types among ds r sc.0 (λ x q. p.none x (seen_not x q) (λ e a l room h. new_is_new e a room (subst IsOld (sym h) (declared_old x q)))))
      where
        seen_not : (x : List ℕ) → IsTrue (declares ds x) → IsFalse (seen x)
        seen_not x q = by (seen x) refl
          where
            by : (b : Bool) → seen x ≡ b → b ≡ false
            by true e = absurd (sc.1 x q e)
            by false e = refl

    all_here : (y : List ℕ) → declares (renamed_decls to ds) y ≡ true → some_defines (eqns_of (made ++ left)) y ≡ true
    all_here y q =
        let here : declares ds y ≡ true = sym (declares_renamed to ds y) ∙ q in
        let l = local outer es ds ok.0 y here in
        some_append made left y ∙ or_left (some_defines (eqns_of made) y) _ (subst (λ z. some_defines (eqns_of made) z ≡ true) (local_kept rn es ds ok.0 y here) (eqns_complete enums rn (declaring tys ds) es ok.1 y l.old l.defined))

    others : (y : List ℕ) → some_defines (eqns_of (made ++ left)) y ≡ true → declares (renamed_decls to ds) y ≡ false → (t : Ty) × (lookup r.variables y ≡ Some t)
    others y h n =
        let stood = defined_in enums rn tys sp xs (block ds es) ok (λ x q. p.old x (p.own_seen x (mine x q))) y (and_not (some_defines (eqns_of (made ++ left)) y) (declares (renamed_decls to ds) y) h n) in
        let there : IsTrue (own stood.name) = ⊎_elim (λ q. block_owned seen own (block ds es) stood.name sc q) (λ q. mine stood.name q) (or_cases (block_defines (block ds es) stood.name) (is_name xs stood.name) stood.own) in
        let k = p.known stood.name (p.own_seen stood.name there) in
        (k.0, subst (λ z. lookup r.variables z ≡ Some k.0) (sym stood.is) (p.names stood.name k.0 k.1))

    left_sound : ListSound types among (with_variables r ds) (lasts_in ds lasts') left
    left_sound =
        kept_sound within_block sp (missing (is_name (outer_names (block ds es))) xs)
        (λ x q.
        let l = left_is (block ds es) xs x q in
        let last = left_last lasts (block ds es) x l.1 (completes x l.0) in
        (or_right (declares ds x) (seen x) (p.own_seen x (mine x l.0)), lasts_kept ds lasts' x (p.lasting x last)))

    pub block_by : ListSound types among (with_variables r ds) (lasts_in ds lasts') made → BlockSound types among r lasts' (lowered_block enums to tys d sp xs (block ds es))
    block_by h =
        subst (λ z. DeclsSound types among z (eqns_of (made ++ left)) (renamed_decls to ds) × (((y : List ℕ) → some_defines (eqns_of (made ++ left)) y ≡ true → declares (renamed_decls to ds) y ≡ false → (t : Ty) × (lookup r.variables y ≡ Some t)) × EqnsSound types among z (lasts_in (renamed_decls to ds) lasts') (eqns_of (made ++ left)))) (sym (scope_renamed to ds r))
        (subst (λ z. DeclsSound types among (with_variables r ds) (eqns_of (made ++ left)) (renamed_decls to ds) × (((y : List ℕ) → some_defines (eqns_of (made ++ left)) y ≡ true → declares (renamed_decls to ds) y ≡ false → (t : Ty) × (lookup r.variables y ≡ Some t)) × EqnsSound types among (with_variables r ds) z (eqns_of (made ++ left)))) (sym (lasts_renamed to ds lasts')) (
          decls_sound types among (with_variables r ds) (eqns_of (made ++ left)) (renamed_decls to ds) own_here all_here (firsts_renamed to (with_variables s ds) es ds sound.0),
          (others, row_sound types among (with_variables r ds) (lasts_in ds lasts') (made ++ left) (both_sound types among (with_variables r ds) (lasts_in ds lasts') made left h left_sound)),
        ))
