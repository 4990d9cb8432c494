-- Tests fit where names stand for names.
use Rattle.std.proofs.Common.{◌≡◌, inl, inr, ℕ, List, [], ◌∷◌, ◌++◌, map, refl, sym, ap, subst}
use Rattle.std.specs.Prelude.{⊤, Option, None, Some, option_map}
use Rattle.hp_base.specs.declared.ty.Ty.{Ty}
use Rattle.hp_tree.specs.declared.block.Trans.{Trans}
use Rattle.hp_tree.specs.Expressions.{Expr, constant, variable, last_of, one, two, choose, pre, fby, arrow, when_is, merge, call, Exprs, no_expr, more_exprs, Parts, no_part, more_parts}
use Rattle.hp_tree.specs.Blocks.{Decl, Block, block, Eqns, no_eqn, more_eqns, Eqn, define, switch, reset, automaton, Arms, no_arm, more_arms, States, no_state, more_states, eqns_of, list_of_eqns}
use Rattle.hp_tree.specs.Instant.{Clock}
use Rattle.law_judged.specs.Typed.Scopes.{Scope}
use Rattle.law_values.specs.Valued.Judged.{of_parts, of_arms}
use Rattle.hp_expand.specs.Renaming.{renamed, renamed_exprs, renamed_parts, renamed_path, renamed_decls, renamed_transition, renamed_block, renamed_eqns, renamed_eqn, renamed_arms, renamed_states}
use Rattle.law_wellmade.specs.Timely.Tested.{AreApart}
use Rattle.law_wellmade.specs.Tested.Fits.{ExprApart, ExprsApart, PartsApart, TestsApart}
use Rattle.law_wellmade.specs.Tested.Around.{Around, Declares, among, AllConses, OneType, PathAround, WrittenAround, DeclsAround, BlockAround, EqnsAround, EqnAround, ArmsAround, StatesAround}

parts_same : (to : List ℕ → List ℕ) (ps : Parts) → of_parts (renamed_parts to ps) ≡ of_parts ps
parts_same to no_part = refl
parts_same to (more_parts c e ps) = ap (λ cs. c ∷ cs) (parts_same to ps)

mutual
  pub apart_renamed : (to : List ℕ → List ℕ) (e : Expr) → ExprApart e → ExprApart (renamed to e)
  apart_renamed to (constant a c) h = tt
  apart_renamed to (variable a x) h = tt
  apart_renamed to (last_of a x) h = tt
  apart_renamed to (one a o d) h = apart_renamed to d h
  apart_renamed to (two a o d e) h = (apart_renamed to d h.0, apart_renamed to e h.1)
  apart_renamed to (choose a d e f) h = (apart_renamed to d h.0, (apart_renamed to e h.1.0, apart_renamed to f h.1.1))
  apart_renamed to (pre a d) h = apart_renamed to d h
  apart_renamed to (fby a d e) h = (apart_renamed to d h.0, apart_renamed to e h.1)
  apart_renamed to (arrow a d e) h = (apart_renamed to d h.0, apart_renamed to e h.1)
  apart_renamed to (when_is a d c x) h = apart_renamed to d h
  apart_renamed to (merge a x ps) h = (subst AreApart (sym (parts_same to ps)) h.0, parts_renamed to ps h.1)
  apart_renamed to (call a f i es) h = exprs_renamed to es h

  exprs_renamed : (to : List ℕ → List ℕ) (es : Exprs) → ExprsApart es → ExprsApart (renamed_exprs to es)
  exprs_renamed to no_expr h = tt
  exprs_renamed to (more_exprs e es) h = (apart_renamed to e h.0, exprs_renamed to es h.1)

  parts_renamed : (to : List ℕ → List ℕ) (ps : Parts) → PartsApart ps → PartsApart (renamed_parts to ps)
  parts_renamed to no_part h = tt
  parts_renamed to (more_parts c e ps) h = (apart_renamed to e h.0, parts_renamed to ps h.1)

pub tests_renamed : (to : List ℕ → List ℕ) (ts : List Trans) → TestsApart ts → TestsApart (map (renamed_transition to) ts)
tests_renamed to [] h = tt
tests_renamed to (t ∷ ts) h = (apart_renamed to t.cond h.0, tests_renamed to ts h.1)

-- ---- declarations in lists

pub first_declares : (ds es : List Decl) (x : List ℕ) (t : Ty) → Declares ds x t → Declares (ds ++ es) x t
first_declares [] es x t h = absurd h
first_declares (d ∷ ds) es x t (inl h) = inl h
first_declares (d ∷ ds) es x t (inr h) = inr (first_declares ds es x t h)

pub then_declares : (ds es : List Decl) (x : List ℕ) (t : Ty) → Declares es x t → Declares (ds ++ es) x t
then_declares [] es x t h = h
then_declares (d ∷ ds) es x t h = inr (then_declares ds es x t h)

pub either_declares : {X : Type 0} (ds es : List Decl) (x : List ℕ) (t : Ty) → Declares (ds ++ es) x t → (Declares ds x t → X) → (Declares es x t → X) → X
either_declares {X} [] es x t h f g = g h
either_declares {X} (d ∷ ds) es x t (inl h) f g = f (inl h)
either_declares {X} (d ∷ ds) es x t (inr h) f g = either_declares ds es x t h (λ k. f (inr k)) g

pub declares_renamed : (to : List ℕ → List ℕ) (ds : List Decl) (x : List ℕ) (t : Ty) → Declares ds x t → Declares (renamed_decls to ds) (to x) t
declares_renamed to [] x t h = absurd h
declares_renamed to (d ∷ ds) x t (inl h) = inl (ap to h.0, h.1)
declares_renamed to (d ∷ ds) x t (inr h) = inr (declares_renamed to ds x t h)

abbrev pub Becomes : (List ℕ → List ℕ) → Around → Around → Type 0
Becomes to G H = (x : List ℕ) (t : Ty) → G x t → H (to x) t

abbrev pub Within : Around → Around → Type 0
Within G H = (x : List ℕ) (t : Ty) → G x t → H x t

pub becomes_more : (to : List ℕ → List ℕ) (G H : Around) (ds : List Decl) → Becomes to G H → Becomes to (among G ds) (among H (renamed_decls to ds))
becomes_more to G H ds b x t (inl h) = inl (declares_renamed to ds x t h)
becomes_more to G H ds b x t (inr h) = inr (b x t h)

module _ (known : Scope) where
  module _ (to : List ℕ → List ℕ) (G H : Around) (b : Becomes to G H) where
    path_renamed : (path : Clock) → PathAround known G path → PathAround known H (renamed_path to path)
    path_renamed [] h = tt
    path_renamed (step ∷ path) h = ((h.0.0, (b step.1 h.0.0 h.0.1.0, h.0.1.1)), path_renamed path h.1)

    written_renamed : (o : Option Clock) → WrittenAround known G o → WrittenAround known H (option_map (renamed_path to) o)
    written_renamed None h = tt
    written_renamed (Some path) h = path_renamed path h

    pub decls_renamed : (ds : List Decl) → DeclsAround known G ds → DeclsAround known H (renamed_decls to ds)
    decls_renamed [] h = tt
    decls_renamed (d ∷ ds) h = (written_renamed d.clock h.0, decls_renamed ds h.1)

  module _ (G H : Around) (b : Within G H) where
    path_within : (path : Clock) → PathAround known G path → PathAround known H path
    path_within [] h = tt
    path_within (step ∷ path) h = ((h.0.0, (b step.1 h.0.0 h.0.1.0, h.0.1.1)), path_within path h.1)

    written_within : (o : Option Clock) → WrittenAround known G o → WrittenAround known H o
    written_within None h = tt
    written_within (Some path) h = path_within path h

    pub decls_within : (ds : List Decl) → DeclsAround known G ds → DeclsAround known H ds
    decls_within [] h = tt
    decls_within (d ∷ ds) h = (written_within d.clock h.0, decls_within ds h.1)

  pub decls_both : (G : Around) (ds es : List Decl) → DeclsAround known G ds → DeclsAround known G es → DeclsAround known G (ds ++ es)
  decls_both G [] es h k = k
  decls_both G (d ∷ ds) es h k = (h.0, decls_both G ds es h.1 k)

  arms_same : (to : List ℕ → List ℕ) (arms : Arms) → of_arms (renamed_arms to arms) ≡ of_arms arms
  arms_same to no_arm = refl
  arms_same to (more_arms c b a arms) = ap (λ cs. c ∷ cs) (arms_same to arms)

  pub one_type : (arms others : Arms) → of_arms others ≡ of_arms arms → OneType known arms → OneType known others
  one_type arms others e h = (h.0, subst (λ cs. AllConses known h.0 cs × AreApart cs) (sym e) h.1)

  module _ (to : List ℕ → List ℕ) where
    mutual
      block_renamed : (b : Block) (G H : Around) → Becomes to G H → BlockAround known G b → BlockAround known H (renamed_block to b)
      block_renamed (block ds es) G H b h =
          let m = becomes_more to G H ds b in
          (decls_renamed to (among G ds) (among H (renamed_decls to ds)) m ds h.0, eqns_renamed es (among G ds) (among H (renamed_decls to ds)) m h.1)

      pub eqns_renamed : (es : Eqns) (G H : Around) → Becomes to G H → EqnsAround known G es → EqnsAround known H (renamed_eqns to es)
      eqns_renamed no_eqn G H b h = tt
      eqns_renamed (more_eqns e es) G H b h = (eqn_renamed e G H b h.0, eqns_renamed es G H b h.1)

      eqn_renamed : (e : Eqn) (G H : Around) → Becomes to G H → EqnAround known G e → EqnAround known H (renamed_eqn to e)
      eqn_renamed (define s ys e) G H b h = apart_renamed to e h
      eqn_renamed (switch s e arms) G H b h = (apart_renamed to e h.0, (one_type arms (renamed_arms to arms) (arms_same to arms) h.1.0, arms_renamed arms G H b h.1.1))
      eqn_renamed (reset s c e) G H b h = (apart_renamed to e h.0, block_renamed c G H b h.1)
      eqn_renamed (automaton s ss) G H b h = states_renamed ss G H b h

      arms_renamed : (arms : Arms) (G H : Around) → Becomes to G H → ArmsAround known G arms → ArmsAround known H (renamed_arms to arms)
      arms_renamed no_arm G H b h = tt
      arms_renamed (more_arms c d a arms) G H b h = (block_renamed d G H b h.0, arms_renamed arms G H b h.1)

      states_renamed : (ss : States) (G H : Around) → Becomes to G H → StatesAround known G ss → StatesAround known H (renamed_states to ss)
      states_renamed no_state G H b h = tt
      states_renamed (more_states f d until unless a ss) G H b h = (block_renamed d G H b h.0, (tests_renamed to until h.1.0, (tests_renamed to unless h.1.1.0, states_renamed ss G H b h.1.1.1)))

  -- ---- equations in a list

  abbrev pub ListAround : Around → List Eqn → Type 0
  ListAround G [] = ⊤
  ListAround G (e ∷ es) = EqnAround known G e × ListAround G es

  pub list_around : (G : Around) (es : Eqns) → EqnsAround known G es → ListAround G (list_of_eqns es)
  list_around G no_eqn h = tt
  list_around G (more_eqns e es) h = (h.0, list_around G es h.1)

  pub row_around : (G : Around) (es : List Eqn) → ListAround G es → EqnsAround known G (eqns_of es)
  row_around G [] h = tt
  row_around G (e ∷ es) h = (h.0, row_around G es h.1)

  pub both_around : (G : Around) (es fs : List Eqn) → ListAround G es → ListAround G fs → ListAround G (es ++ fs)
  both_around G [] fs h k = k
  both_around G (e ∷ es) fs h k = (h.0, both_around G es fs h.1 k)
