-- The variables of a node: those of its signature, new ones, the body's own, and new ones.
use Rattle.std.proofs.Common.{◌≡◌, ℕ, ◌+◌, nat_eq, Bool, true, false, if◌then◌else◌, List, [], ◌∷◌, ◌++◌, length, map, None, Some, ◌⊎◌, inl, inr, refl, sym, ap, subst, ◌∙◌}
use Rattle.std.specs.List.{AllByRecursion, IsDistinct}
use Rattle.std.proofs.lemmas.List.{append-nil, append_assoc, length-append, map-append}
use Rattle.hp_tree.specs.Blocks.{Decl, Block, block}
use Rattle.hp_tree.specs.Programs.{Node}
use Rattle.hp_tree.specs.Meaning.{declares, controls_of, names_of}
use Rattle.hp_flat.specs.declared.node.FlatTy.{FlatTy}
use Rattle.hp_flat.specs.declared.node.Variable.{Variable as VariableData}
use Rattle.hp_flat.specs.Equations.{FlatEqn}
use Rattle.law_equations.specs.Followed.Premises.{names}
use Rattle.law_equations.specs.Made.Making.{Known, Sketch, Sight, Seen, Body, next, no_entry, nothing_made, unknown, base_site, over, with_variable, with_new, new_name, keeps_name, own_variable, with_own, own_names, declared, names_of_eqns, each_once, put, flat_type, signed, signature, remember_all, sketch_block, sketch_node}
use Rattle.law_equations.specs.Made.Blocks.{locals_of}
use Rattle.law_equations.specs.Fitting.Fitting.{signature_names, TargetsLaw}
use Rattle.law_equations.proofs.FittingLemmas.Growth.{IsNew, AreNew, AllApart, both}
use Rattle.law_equations.proofs.FittingLemmas.BlockGrowth.{remember-grown, eqns-grown}

-- ---- the own variables of a body

-- Of some names, in order, each has no variable, or a new one, or one of its name, which the body declares.
abbrev pub AreOwn : List Decl → List (List ℕ) → ℕ → List VariableData → Type 0
AreOwn ds [] n [] = Unit {0}
AreOwn ds [] n (v ∷ vs) = ⊥
AreOwn ds (x ∷ xs) n [] = AreOwn ds xs n []
AreOwn ds (x ∷ xs) n (v ∷ vs) = AreOwn ds xs n (v ∷ vs) ⊎ ((IsNew n v ⊎ ((v.name ≡ x) × (declares ds x ≡ true))) × AreOwn ds xs (n + 1) vs)

skipped : (ds : List Decl) (x : List ℕ) (xs : List (List ℕ)) (n : ℕ) (vs : List VariableData) → AreOwn ds xs n vs → AreOwn ds (x ∷ xs) n vs
skipped ds x xs n [] h = h
skipped ds x xs n (v ∷ vs) h = inl h

pub record OwnGrown (ds : List Decl) (xs : List (List ℕ)) (d e : Sketch) : Type 0 where
  pub more : List VariableData
  pub variables : e.variables ≡ d.variables ++ more
  pub named : AreOwn ds xs (next d) more
  pub eqns : e.eqns ≡ d.eqns

behind : (ds : List Decl) (x : List ℕ) (xs : List (List ℕ)) (v : VariableData) (d e : Sketch) → IsNew (next d) v ⊎ ((v.name ≡ x) × (declares ds x ≡ true)) → OwnGrown ds xs (record d { variables = d.variables ++ v ∷ [] }) e → OwnGrown ds (x ∷ xs) d e
behind ds x xs v d e h g =
    let one : length (d.variables ++ v ∷ []) ≡ next d + 1 = length-append d.variables (v ∷ []) in
    record {
      more = v ∷ g.more;
      variables = g.variables ∙ append_assoc d.variables (v ∷ []) g.more;
      named = inr (h, subst (λ m. AreOwn ds xs m g.more) one g.named);
      eqns = g.eqns;
    }

module _ (ds : List Decl) (out : Sight) where
  own_by : (x : List ℕ) (xs : List (List ℕ)) (s : Seen) (t : FlatTy) (b : Bool) → declares ds x ≡ true → ((r : Seen) → OwnGrown ds xs r.1 (own_names Body ds out xs r).1)
      → OwnGrown ds (x ∷ xs) s.1 (own_names Body ds out xs (with_own ds x (over s.0 out x) s.0 (if b then (with_variable x t s.1, next s.1) else (with_new x t s.1, next s.1)))).1
  own_by x xs s t true e rest =
      behind ds x xs (record { name = x; ty = t }) s.1 _ (inr (refl, e)) (rest (with_own ds x (over s.0 out x) s.0 (with_variable x t s.1, next s.1)))
  own_by x xs s t false e rest =
      behind ds x xs (record { name = new_name x (next s.1); ty = t }) s.1 _ (inl (x, refl)) (rest (with_own ds x (over s.0 out x) s.0 (with_new x t s.1, next s.1)))

  one_own : (x : List ℕ) (xs : List (List ℕ)) (s : Seen) (b : Bool) → declares ds x ≡ b → ((r : Seen) → OwnGrown ds xs r.1 (own_names Body ds out xs r).1)
      → OwnGrown ds (x ∷ xs) s.1 (own_names Body ds out xs (if b then with_own ds x (over s.0 out x) s.0 (own_variable Body ds x (over s.0 out x).ty s.1) else s)).1
  one_own x xs s true e rest = own_by x xs s (over s.0 out x).ty (keeps_name ds x) e rest
  one_own x xs s false e rest =
      let g = rest s in
      record { more = g.more; variables = g.variables; named = skipped ds x xs (next s.1) g.more g.named; eqns = g.eqns }

  own_grown : (xs : List (List ℕ)) (s : Seen) → OwnGrown ds xs s.1 (own_names Body ds out xs s).1
  own_grown [] s = record { more = []; variables = sym (append-nil s.1.variables); named = tt; eqns = refl }
  own_grown (x ∷ xs) s = one_own x xs s (declares ds x) refl (λ r. own_grown xs r)

-- ---- the parts of a node's variables

pub record NodeParts (n : Node) (d : Sketch) : Type 0 where
  pub first : List VariableData
  pub lasts : List VariableData
  pub owns : List VariableData
  pub rest : List VariableData
  pub names : List (List ℕ)
  pub variables : d.variables ≡ first ++ (lasts ++ (owns ++ rest))
  pub signed : map (λ (v : VariableData). v.name) first ≡ signature_names n
  pub are_lasts : AreNew (length first) lasts
  pub are_owns : AreOwn (locals_of n.body) (each_once [] names) (length first + length lasts) owns
  pub are_rest : AreNew (length first + length lasts + length owns) rest
  pub apart : AllApart d

module _ (k : Known) where
  named_signed : (ds : List Decl) (s : Seen) → names (signed k ds s).1.variables ≡ names s.1.variables ++ names_of ds
  named_signed [] s = sym (append-nil (names s.1.variables))
  named_signed (d ∷ ds) s =
      let r : Seen = (put d.name (record { ty = flat_type k.types d.ty; value = Some (next s.1); last = None; is_local = true }) s.0, with_variable d.name (flat_type k.types d.ty) s.1) in
      named_signed ds r
      ∙ ap (λ xs. xs ++ names_of ds) (map-append (λ (v : VariableData). v.name) s.1.variables (record { name = d.name; ty = flat_type k.types d.ty } ∷ []))
      ∙ append_assoc (names s.1.variables) (d.name ∷ []) (names_of ds)

  eqns_signed : (ds : List Decl) (s : Seen) → (signed k ds s).1.eqns ≡ s.1.eqns
  eqns_signed [] s = refl
  eqns_signed (d ∷ ds) s = eqns_signed ds (put d.name (record { ty = flat_type k.types d.ty; value = Some (next s.1); last = None; is_local = true }) s.0, with_variable d.name (flat_type k.types d.ty) s.1)

  signature_named : (n : Node) → names (signature k n).1.variables ≡ signature_names n
  signature_named n =
      let none : Seen = (no_entry, nothing_made) in
      let ins = signed k n.inputs none in
      let mids = signed k (controls_of n.contract) ins in
      named_signed n.outputs mids
      ∙ ap (λ xs. xs ++ names_of n.outputs)
      (named_signed (controls_of n.contract) ins ∙ ap (λ xs. xs ++ names_of (controls_of n.contract)) (named_signed n.inputs none)
      ∙ sym (map-append (λ (d : Decl). d.name) n.inputs (controls_of n.contract)))

  pub signature-bare : (n : Node) → (signature k n).1.eqns ≡ []
  signature-bare n =
      let none : Seen = (no_entry, nothing_made) in
      let ins = signed k n.inputs none in
      let mids = signed k (controls_of n.contract) ins in
      eqns_signed n.outputs mids ∙ eqns_signed (controls_of n.contract) ins ∙ eqns_signed n.inputs none

  parts_by : (n : Node) (b : Block) → n.body ≡ b → NodeParts n (let s = remember_all k base_site unknown n.outputs (signature k n) in (sketch_block k Body (over s.0 unknown) base_site b s.1).1)
  parts_by n (block ds es) is =
      let s = signature k n in
      let r = remember_all k base_site unknown n.outputs s in
      let g = remember-grown k base_site unknown n.outputs s in
      let out = over r.0 unknown in
      let xs = each_once [] (names_of_eqns es) in
      let o = own_names Body ds out xs (declared k ds out, r.1) in
      let h = own_grown ds out xs (declared k ds out, r.1) in
      let l = remember_all k base_site out ds o in
      let m = both o.1 l.1 _ (remember-grown k base_site out ds o) (eqns-grown k es ds (over l.0 out) base_site l.1) in
      let long : next r.1 ≡ next s.1 + length g.more = ap length g.variables ∙ length-append s.1.variables g.more in
      let longer : next o.1 ≡ next s.1 + length g.more + length h.more = ap length h.variables ∙ length-append r.1.variables h.more ∙ ap (λ j. j + length h.more) long in
      record {
        first = s.1.variables;
        lasts = g.more;
        owns = h.more;
        rest = m.more;
        names = names_of_eqns es;
        variables = m.variables ∙ ap (λ vs. vs ++ m.more) (h.variables ∙ ap (λ vs. vs ++ h.more) g.variables ∙ append_assoc s.1.variables g.more h.more)
            ∙ append_assoc s.1.variables (g.more ++ h.more) m.more ∙ ap (λ vs. s.1.variables ++ vs) (append_assoc g.more h.more m.more);
        signed = signature_named n;
        are_lasts = g.named;
        are_owns = subst (λ b. AreOwn (locals_of b) xs (next s.1 + length g.more) h.more) (sym is) (subst (λ j. AreOwn ds xs j h.more) long h.named);
        are_rest = subst (λ j. AreNew j m.more) longer m.named;
        apart = m.apart (subst (AllByRecursion (λ (e : FlatEqn). IsDistinct nat_eq e.targets)) (sym h.eqns) (g.apart (subst (AllByRecursion (λ (e : FlatEqn). IsDistinct nat_eq e.targets)) (sym (signature-bare n)) tt)));
      }

  pub node-parts : (n : Node) → NodeParts n (sketch_node k n)
  node-parts n = parts_by n n.body refl

pub targets-law : TargetsLaw
targets-law k n = let p = node-parts k n in p.apart
