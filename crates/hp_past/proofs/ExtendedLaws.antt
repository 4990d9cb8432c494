-- Each contract of an unfolded program remembers its formulas.
use Rattle.std.proofs.Common.{◌≡◌, ◌⊎◌, inl, inr, ℕ, ◌<◌, ◌≤◌, ◌^◌, Bool, true, false, List, [], ◌∷◌, ◌++◌, Option, None, Some, refl, sym, ap, ◌∙◌, arith}
use Rattle.hp_tree.specs.declared.program.Item.{Item}
use Rattle.hp_tree.specs.declared.program.Item.TheVariants.{TypeItem, NodeItem}
use Rattle.hp_tree.specs.Expressions.{Expr}
use Rattle.hp_tree.specs.Blocks.{Decl, Block, block, Eqns, eqns_of}
use Rattle.hp_tree.specs.Meaning.{declares, some_defines}
use Rattle.hp_tree.specs.Programs.{Contract}
use Rattle.hp_tree.specs.Reaction.{Each}
use Rattle.hp_past.specs.declared.formula.Formulas.{Formulas}
use Rattle.hp_past.specs.Formulas.{formulas_of}
use Rattle.hp_past.specs.Names.{Names, is_taken, names_in_decls, names_in_eqns, names_in_block, names_in_condition, names_in_contract, names_in_node, names_in_program, names_of}
use Rattle.hp_past.specs.Own.{locals_of, equations_of}
use Rattle.hp_past.specs.Unfolding.{Added, nothing_added, joined_block, in_eqns, in_parts_of, in_contract, in_optional, in_item, in_items, unfolded, number_behind, next_number}
use Rattle.hp_past.specs.Remembered.{Remembered, variable_of, Keeps, Extends, ExtendsIfAny, ContractsExtend}
use Rattle.hp_past.proofs.KeptLaws.{IsNew, KeptIn, WellAdded, keeps-behind, contract-steps}
use Rattle.hp_past.proofs.OccurringLaws.{In, in-left, in-right, noted-taken, declares-in, some-in, eqns-same}

-- all names of a part are taken
abbrev AreTaken : Names → List (List ℕ) → Type 0
AreTaken names xs = (x : List ℕ) → In x xs → is_taken names x ≡ true

module _ (there : Formulas) (names : Names) where
  -- what is new is neither declared nor defined by the contract itself
  not-so : (b : Bool) → (b ≡ true → ⊥) → b ≡ false
  not-so true h = absurd (h refl)
  not-so false h = refl

  differ : (x : List ℕ) → is_taken names x ≡ true → is_taken names x ≡ false → ⊥
  differ x h k = let both : true ≡ false = sym h ∙ k in cc

  module _ (ds : List Decl) (es : Eqns) (taken : AreTaken names (names_in_decls ds ++ names_in_eqns es)) (s t : Added) (x : List ℕ) (free : is_taken names x ≡ false) where
    undeclared : declares ds x ≡ false
    undeclared = not-so (declares ds x) (λ h. differ x (taken x (in-left x (names_in_decls ds) (names_in_eqns es) (declares-in ds x h))) free)

    undefined : some_defines (eqns_of (in_eqns there names es s).0) x ≡ false
    undefined =
        eqns-same there names x es s
        ∙ not-so (some_defines es x) (λ h. differ x (taken x (in-right x (names_in_decls ds) (names_in_eqns es) (some-in es x h))) free)

  kept-behind : (ds : List Decl) (es : Eqns) → AreTaken names (names_in_decls ds ++ names_in_eqns es) → (s t : Added) (new : List Decl) → Each (λ (d : Decl). IsNew names t.next d.name) new → Each (KeptIn t.locals t.eqns) new
      → Each (KeptIn (ds ++ t.locals) ((in_eqns there names es s).0 ++ t.eqns)) new
  kept-behind ds es taken s t [] n k = tt
  kept-behind ds es taken s t (d ∷ new) n k = (by k.0, kept-behind ds es taken s t new n.1 k.1)
    where
      free : is_taken names d.name ≡ false
      free = let m = n.0 in ap (is_taken names) m.spelled ∙ m.free_of_it

      by : KeptIn t.locals t.eqns d → KeptIn (ds ++ t.locals) ((in_eqns there names es s).0 ++ t.eqns) d
      by (inl e) = inl e
      by (inr f) =
          let name = f.1 in
          inr (
            f.0,
            f.1,
            keeps-behind ds t.locals (in_eqns there names es s).0 t.eqns f.0 (ap (declares ds) name ∙ undeclared ds es taken s t d.name free)
                (ap (some_defines (eqns_of (in_eqns there names es s).0)) name ∙ undefined ds es taken s t d.name free) f.2,
          )

  well-nothing : (k : ℕ) → WellAdded names (nothing_added k)
  well-nothing k = record { locals = tt; eqns = tt; kept = tt }

  block-extends : (b : Block) (k : ℕ) (assume enforce : Option Expr) (controls : List Decl) (c : Contract) → c.body ≡ b → AreTaken names (names_in_block b) → (t : Added) → t ≡ (in_parts_of there names c (nothing_added k)).1
      → t.next < 2 ^ 64 → WellAdded names t
      → (new : List Decl) × ((locals_of (joined_block (locals_of b) (in_eqns there names (equations_of b) (nothing_added k)).0 t) ≡ locals_of b ++ new)
      × Each (λ (v : Decl). (v.last ≡ None) ⊎ ((f : Remembered) × (variable_of f ≡ v.name) × Keeps (joined_block (locals_of b) (in_eqns there names (equations_of b) (nothing_added k)).0 t) f)) new)
  unfolding joined_block
  block-extends (block ds es) k assume enforce controls c same taken t is small w = (t.locals, (refl, kept-behind ds es taken (nothing_added k) t t.locals w.locals w.kept))

  contract-extends : (c : Contract) (k : ℕ) → AreTaken names (names_in_block c.body) → (in_contract there names c k).1 < 2 ^ 64 → Extends c (in_contract there names c k).0
  contract-extends c k taken small =
      let t = (in_parts_of there names c (nothing_added k)).1 in
      let steps = contract-steps there names c (nothing_added k) in
      let r = block-extends c.body k c.assume c.enforce c.controls c refl taken t refl small (steps.well small (well-nothing k)) in
      record { new = r.0; locals = r.1.0; remembered = r.1.1 }

  contract-later : (c : Contract) (k : ℕ) → k ≤ (in_contract there names c k).1
  contract-later c k = let steps = contract-steps there names c (nothing_added k) in steps.later

  pub optional-later : (o : Option Contract) (k : ℕ) → k ≤ (in_optional there names o k).1
  optional-later None k = omega arith
  optional-later (Some c) k = contract-later c k

  pub item-later : (item : Item) (k : ℕ) → k ≤ (in_item there names item k).1
  item-later (TypeItem t) k = omega arith
  item-later (NodeItem n) k = optional-later n.contract k

  pub behind-later : (items : List Item) (k : ℕ) → k ≤ number_behind there names items k
  behind-later [] k = omega arith
  behind-later (item ∷ items) k =
      let a = item-later item k in
      let b = behind-later items (in_item there names item k).1 in
      omega (arith, a, b)

  optional-extends : (o : Option Contract) (k : ℕ) → AreTaken names (names_in_contract o) → (in_optional there names o k).1 < 2 ^ 64 → ExtendsIfAny o (in_optional there names o k).0
  optional-extends None k taken small = tt
  optional-extends (Some c) k taken small =
      contract-extends c k (λ x h. taken x (in-left x (names_in_block c.body) (names_in_condition c.assume ++ (names_in_condition c.enforce ++ names_in_decls c.controls)) h)) small

  items-extend : (items : List Item) (k : ℕ) → AreTaken names (names_in_program items) → number_behind there names items k < 2 ^ 64 → ContractsExtend items (in_items there names items k)
  items-extend [] k taken small = tt
  items-extend (TypeItem t ∷ items) k taken small = (refl, items-extend items k (λ x h. taken x (in-right x (t.name ∷ []) (names_in_program items) h)) small)
  items-extend (NodeItem n ∷ items) k taken small =
      let next = (in_optional there names n.contract k).1 in
      let later = behind-later items next in
      let inputs = names_in_decls n.inputs in
      let outputs = names_in_decls n.outputs in
      let rest = names_in_contract n.contract ++ names_in_block n.body in (
        refl,
        optional-extends n.contract k
            (λ x h. taken x (in-left x (names_in_node n) (names_in_program items) (inr (in-right x inputs (outputs ++ rest) (in-right x outputs rest (in-left x (names_in_contract n.contract) (names_in_block n.body) h))))))
            (omega (arith, later, small)),
        items-extend items next (λ x h. taken x (in-right x (names_in_node n) (names_in_program items) h)) small,
      )

pub contracts-extend : (program : List Item) → next_number program < 2 ^ 64 → ContractsExtend program (unfolded program)
contracts-extend program small = items-extend (formulas_of program) (names_of program) program 1 (λ x h. noted-taken [] (names_in_program program) x h) small
