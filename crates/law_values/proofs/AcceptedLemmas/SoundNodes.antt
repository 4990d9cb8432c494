-- So are the nodes of a judged program.
use Rattle.std.proofs.Common.{◌≡◌, ℕ, zero, suc, ◌+◌, ◌<◌, length, get_or, List, [], ◌∷◌, ◌++◌, refl, sym, ap, subst, ◌∙◌, ◌⊎◌, inl, inr, ⊎_elim, arith}
use Rattle.std.specs.Prelude.{⊤, Bool, true, false, ◌&&◌, ◌||◌, not, is_some, IsTrue, IsFalse, if◌then◌else◌, Option, None, Some, IsSome}
use Rattle.std.specs.List.{Contains}
use Rattle.std.specs.Str.{bytes_eq}
use Rattle.hp_base.specs.declared.ty.Ty.{Ty}
use Rattle.hp_base.specs.declared.ty.Ty.TheVariants as ty
use Rattle.hp_base.specs.declared.ty.Const.{Const}
use Rattle.hp_base.specs.declared.value.Value.{Value}
use Rattle.hp_base.specs.declared.value.Value.TheVariants.{E}
use Rattle.hp_tree.specs.declared.program.Item.{Item}
use Rattle.hp_tree.specs.declared.program.Item.TheVariants.{TypeItem, NodeItem}
use Rattle.hp_tree.specs.Expressions.{Expr}
use Rattle.hp_tree.specs.Blocks.{Decl, Block, block}
use Rattle.hp_tree.specs.Programs.{TypeDecl, Contract, Node}
use Rattle.hp_tree.specs.Operators.{place_in, or_later, constructor_from}
use Rattle.hp_tree.specs.Values.{constructors_of, IsOf}
use Rattle.hp_tree.specs.Meaning.{declares, some_defines, block_defines, controls_of, types_of, node_among}
use Rattle.hp_base.specs.Known.Known.{lookup, with_entry}
use Rattle.hp_names.specs.Names.{with_name, with_names, names_at}
use Rattle.hp_names.specs.Scopes as names
use Rattle.hp_names.specs.Rules.{ConditionIsNamed, ContractIsNamed, NodeIsNamed, ItemsAreNamed, WellNamed}
use Rattle.hp_typing.specs.Scopes.{nothing, behind, with_variables, with_constructors, inside, inside_node}
use Rattle.hp_typing.specs.Rules.{ConditionIsTyped, ContractIsTyped, NodeIsTyped, ItemsAreTyped, WellTyped}
use Rattle.hp_typing.specs.Definitions.{BlockDefinesWhole, DefineWhole}
use Rattle.hp_typing.specs.Definedness.{equations}
use Rattle.hp_typing.specs.DefinitionRules.{VariablesAreDefined, ConditionIsWhole, ContractIsDefined, NodeIsDefined, ItemsAreDefined, WellDefined}
use Rattle.law_judged.specs.Typed.Typed.{ConditionHasType, ContractHasTypes, NodeHasTypes, ItemsHaveTypes, HaveTypes}
use Rattle.law_judged.specs.Named.Scopes.{Scope, NameScope}
use Rattle.law_judged.specs.Named.Scoped.{Names, no_names, also, BlockScoped, ContractScoped, equations_of, interface, NodeScoped, EachNode}
use Rattle.law_judged.proofs.NamedLemmas.Sets.{or_cases, or_left, or_right, both_true, same_name, name_same, Sees, kept_name, new_name, new_once, new_fresh}
use Rattle.law_values.specs.Valued.Judged.{Lasts, lasts_in, lasts_of, no_lasts, body_scope, HaveOwnTypes, BlockSound, HaveEquations, ToldSound, ContractSound, NodeSound}
use Rattle.law_values.specs.Valued.Values.{scope_behind}
use Rattle.law_values.proofs.ValuedLemmas.Scoped.{still_known}
use Rattle.law_values.specs.Accepted.Written.{BlockArmed, ContractArmed, NoLasts, NodeArmed, AreSound}
use Rattle.law_values.proofs.AcceptedLemmas.Views.{some_same, true_false, cases, taken, entry_new, entry_cases, entry_kept, own_types, declared_type, Grounds, grounds_more, last_among, lasts_own, Views, fresh_unknown, views_more}
use Rattle.law_values.proofs.AcceptedLemmas.Sounds.{equations_sound, test_sound, variable_whole, block_sound}

-- ---- nodes

own_kept : (types : List TypeDecl) (among : List ℕ → Option Node) (s : Scope) (es ds : List Decl) → HaveOwnTypes types among s ds → HaveOwnTypes types among (with_variables s es) ds
own_kept types among s es [] o = tt
own_kept types among s es (d ∷ ds) o = (still_known d.name es s d.ty o.0, own_kept types among s es ds o.1)

none_last : (ds : List Decl) (out : Lasts) (x : List ℕ) → NoLasts ds → IsTrue (lasts_in ds out x) → IsTrue (out x)
none_last [] out x o h = h
none_last (d ∷ ds) out x o h = by (bytes_eq d.name x) (none_last ds out x o.1) (subst (λ z. IsTrue (if bytes_eq d.name x then (elim z [ None ↦ out x | Some c ↦ true ]) else lasts_in ds out x)) o.0 h)
  where
    by : (b : Bool) → (IsTrue (lasts_in ds out x) → IsTrue (out x)) → IsTrue (if b then out x else lasts_in ds out x) → IsTrue (out x)
    by true f h = h
    by false f h = f h

lasts_as : (ds : List Decl) (out other : Lasts) (x : List ℕ) → (IsTrue (out x) → IsTrue (other x)) → IsTrue (lasts_in ds out x) → IsTrue (lasts_in ds other x)
lasts_as [] out other x f h = f h
lasts_as (d ∷ ds) out other x f h = by (bytes_eq d.name x) d.last h (lasts_as ds out other x f)
  where
    by : (b : Bool) (o : Option Const) → IsTrue (if b then (elim o [ None ↦ out x | Some c ↦ true ]) else lasts_in ds out x) → (IsTrue (lasts_in ds out x) → IsTrue (lasts_in ds other x)) → IsTrue (if b then (elim o [ None ↦ other x | Some c ↦ true ]) else lasts_in ds other x)
    by true (Some c) h g = refl
    by true None h g = f h
    by false o h g = g h

whole_block : (b : Block) (x : List ℕ) → DefineWhole (equations b) x → BlockDefinesWhole b x
whole_block (block ds es) x h = h

pub output_defined : (seen own : Names) (b : Block) → BlockScoped seen own b → (x : List ℕ) → IsTrue (seen x) → IsTrue (some_defines (equations_of b) x) → IsTrue (block_defines b x)
output_defined seen own (block ds es) sc x h d = both_true (some_defines es x) (declares ds x) d (λ k. sc.1 x k h)

module _ (types : List TypeDecl) (among : List ℕ → Option Node) where
  told_sound : {n : NameScope} {s : Scope} {seen own : Names} {lasts : Lasts} → Views types among n s seen own lasts → (b : Block) → BlockScoped seen own b → (o : Option Expr) → ConditionIsNamed (names.inside n b) o → ConditionIsTyped (inside s b) o → ConditionHasType (inside s b) o → ConditionIsWhole (inside s b) o → ToldSound types among (inside s b) (lasts_of b lasts) o
  told_sound {n} {s} {seen} {own} {lasts} v b sc None m t h w = tt
  told_sound {n} {s} {seen} {own} {lasts} v (block ds es) sc (Some e) m t h w =
      let i = views_more v ds sc.0 sc.1 in
      test_sound types among (names.with_variables n ds) (with_variables s ds) (lasts_in ds lasts) i.grounds i.lasting e m t h w

  contract_sound : {n : NameScope} {s : Scope} {seen : Names} {lasts : Lasts} → Views types among n s seen no_names lasts → (ins outs : List Decl) (o : Option Contract) → ContractScoped seen o → ContractArmed o → ContractIsNamed n o → ContractIsTyped s o → ContractHasTypes s o → ContractIsDefined s ins outs o → ContractSound types among s lasts o
  contract_sound {n} {s} {seen} {lasts} v ins outs None sc a m t h d = tt
  contract_sound {n} {s} {seen} {lasts} v ins outs (Some c) sc a m t h d = (
    block_sound types among c.body n s seen no_names lasts v sc a m.0 t.0 h.0 d.0 (λ x l. absurd (cc)),
    (told_sound v c.body sc c.assume m.1.0 t.1.0 h.1.0 d.1.1.1.0, told_sound v c.body sc c.enforce m.1.1 t.1.1 h.1.1 d.1.1.1.1),
  )

  -- outside of nodes no variable is in scope
  pub record Outside (n : NameScope) (s : Scope) : Type 0 where
    pub sees : Sees n no_names
    pub unknown : (x : List ℕ) → lookup s.variables x ≡ None
    pub no_last : (x : List ℕ) → Contains n.lasts x → ⊥
    pub grounds : Grounds types among s

  pub node_sound : (n : NameScope) (s : Scope) → Outside n s → (m : Node) → NodeScoped m → NodeArmed m → NodeIsNamed n m → NodeIsTyped s m → NodeHasTypes s m → NodeIsDefined s m → NodeSound types among s m
  node_sound n s o m sc a named t h d =
      let v0 : Views types among n s no_names no_names no_lasts = record { grounds = o.grounds; sees = o.sees; known = λ x l. absurd (cc); unknown = λ x f. o.unknown x; owned = λ x l. l; lasting = λ x l. absurd (o.no_last x l) } in
      let once_in = new_once n.variables m.inputs named.0 in
      let fresh_in = new_fresh n no_names m.inputs v0.sees named.0 in
      let v1 = views_more v0 m.inputs once_in fresh_in in
      let n1 = names.with_variables n m.inputs in
      let s1 = with_variables s m.inputs in
      let once_out = new_once n1.variables m.outputs named.1.0 in
      let fresh_out = new_fresh n1 (also no_names m.inputs) m.outputs v1.sees named.1.0 in
      let v2 = views_more v1 m.outputs once_out fresh_out in
      let n2 = names.inside_node n m in
      let s2 = inside_node s m in
      let cs = controls_of m.contract in
      let body = named.1.1.1.1.1 in
      let once_con = new_once n2.variables cs body.0.0 in
      let fresh_con = new_fresh n2 (interface m) cs v2.sees body.0.0 in
      let v3 = views_more v2 cs once_con fresh_con in
      let lasts = lasts_in m.outputs no_lasts in
      let only_outputs = λ (x : List ℕ) (l : IsTrue (lasts_in m.outputs (lasts_in m.inputs no_lasts) x)). lasts_as m.outputs (lasts_in m.inputs no_lasts) no_lasts x (λ k. none_last m.inputs no_lasts x a.0.0 k) l in
      let vc : Views types among n2 s2 (interface m) no_names lasts = record { grounds = v2.grounds; sees = v2.sees; known = v2.known; unknown = v2.unknown; owned = λ x l. absurd (cc); lasting = λ x l. only_outputs x (v2.lasting x l) } in
      let vb : Views types among (names.with_variables n2 cs) (body_scope s m) (also (interface m) cs) (also no_names m.outputs) lasts =
      record {
        grounds = v3.grounds;
        sees = v3.sees;
        known = v3.known;
        unknown = v3.unknown;
        owned = λ x l. or_right (declares cs x) (interface m x) (⊎_elim (λ k. or_left (declares m.outputs x) (also no_names m.inputs x) k) (λ k. absurd (cc)) (or_cases (declares m.outputs x) false l));
        lasting = λ x l. only_outputs x (none_last cs (lasts_in m.outputs (lasts_in m.inputs no_lasts)) x a.0.1 (v3.lasting x l));
      } in
      let own_in : HaveOwnTypes types among s2 m.inputs = own_kept types among s1 m.outputs m.inputs (own_types types among m.inputs s once_in (fresh_unknown v0 m.inputs fresh_in)) in
      let own_out : HaveOwnTypes types among s2 m.outputs = own_types types among m.outputs s1 once_out (fresh_unknown v1 m.outputs fresh_out) in (
        (own_in, own_out),
        (
          (own_kept types among s2 cs m.inputs own_in, own_kept types among s2 cs m.outputs own_out),
          (
            own_types types among cs s2 once_con (fresh_unknown v2 cs fresh_con),
            (
              equations_sound types among n2 s2 lasts vc.grounds vc.lasting m.body m.outputs
                  (λ x l. output_defined (also (interface m) cs) (also no_names m.outputs) m.body sc.body x (or_right (declares cs x) (interface m x) (or_left (declares m.outputs x) (also no_names m.inputs x) l)) (sc.outputs x l)) t.1.0 h.1.0,
              (
                block_sound types among m.body (names.with_variables n2 cs) (body_scope s m) (also (interface m) cs) (also no_names m.outputs) lasts vb sc.body a.1.1 body.1 t.1.1.1.1 h.1.1.1.1 d.1.0
                    (λ x l. ⊎_elim (λ k. ⊎_elim (λ z. inl z) (λ z. inr (whole_block m.body x z)) (variable_whole types among (equations m.body) m.outputs m.outputs no_lasts (λ y z. lasts_own m.outputs no_lasts y once_out z) d.1.1.1.1 x k)) (λ k. absurd (cc)) (or_cases (declares m.outputs x) false l)),
                contract_sound vc m.inputs m.outputs m.contract sc.contract a.1.0 named.1.1.1.1.0 t.1.1.0 h.1.1.0 d.0,
              ),
            ),
          ),
        ),
      )

-- ---- types that are declared so far

append_more : {A : Type 0} (xs : List A) (y : A) (zs : List A) → (xs ++ y ∷ []) ++ zs ≡ xs ++ y ∷ zs
append_more {A} [] y zs = refl
append_more {A} (x ∷ xs) y zs = ap (λ r. x ∷ r) (append_more xs y zs)

length_more : {A : Type 0} (xs : List A) (y : A) → length (xs ++ y ∷ []) ≡ suc (length xs)
length_more {A} [] y = refl
length_more {A} (x ∷ xs) y = ap suc (length_more xs y)

place_none : (xs : List (List ℕ)) (k : ℕ) (x : List ℕ) → ((i : ℕ) → i < length xs → get_or xs i x ≡ x → ⊥) → place_in k xs x ≡ None
place_none [] k x f = refl
place_none (y ∷ xs) k x f = by (bytes_eq y x) refl (place_none xs (suc k) x (λ i l e. f (suc i) (omega arith) e))
  where
    by : (b : Bool) → bytes_eq y x ≡ b → place_in (suc k) xs x ≡ None → (if b then Some k else place_in (suc k) xs x) ≡ None
    by true e g = absurd (f 0 (omega arith) (same_name y x e))
    by false e g = g

place_some : (xs : List (List ℕ)) (k : ℕ) (x : List ℕ) (i : ℕ) → i < length xs → get_or xs i x ≡ x → (j : ℕ) × (place_in k xs x ≡ Some j)
place_some [] k x i l e = absurd (omega arith)
place_some (y ∷ xs) k x zero l e = (k, ap (λ b. if b then Some k else place_in (suc k) xs x) (name_same y x e))
place_some (y ∷ xs) k x (suc i) l e = by (bytes_eq y x) (place_some xs (suc k) x i (omega arith) e)
  where
    by : (b : Bool) → (j : ℕ) × (place_in (suc k) xs x ≡ Some j) → (j : ℕ) × ((if b then Some k else place_in (suc k) xs x) ≡ Some j)
    by true q = (k, refl)
    by false q = q

-- the constructor of a name among those of a type: an entry that was there, or one of the new ones
constructor_cases : {X : Type 0} (cs : List (List ℕ)) (known : List (List ℕ × List ℕ)) (t x u : List ℕ) → lookup (with_constructors known t cs) x ≡ Some u → (lookup known x ≡ Some u → X) → (Contains cs x → (t ≡ u) → lookup known x ≡ None → X) → X
constructor_cases {X} [] known t x u h f g = f h
constructor_cases {X} (c ∷ cs) known t x u h f g =
    constructor_cases cs (with_entry known c t) t x u h
    (λ k. entry_cases known c t x u k f (λ e w z. g (0, omega arith, sym e) w z))
    (λ i w z. g (suc i.0, (let q = i.1 in omega arith), i.2) w (none_before known c t x z))
  where
    none_before : (known : List (List ℕ × List ℕ)) (c t x : List ℕ) → lookup (with_entry known c t) x ≡ None → lookup known x ≡ None
    none_before known c t x z = by (lookup known x) refl
      where
        by : (o : Option (List ℕ)) → lookup known x ≡ o → lookup known x ≡ None
        by None e = e
        by (Some v) e = absurd (let r = sym (entry_kept known c t x v e) ∙ z in cc)

pub none_kept : {A : Type 0} (es : List (List ℕ × A)) (y : List ℕ) (u : A) (x : List ℕ) → lookup (with_entry es y u) x ≡ None → lookup es x ≡ None
none_kept {A} es y u x z = by (lookup es x) refl
  where
    by : (o : Option A) → lookup es x ≡ o → lookup es x ≡ None
    by None e = e
    by (Some v) e = absurd (let r = sym (entry_kept es y u x v e) ∙ z in cc)

none_constructors : (cs : List (List ℕ)) (known : List (List ℕ × List ℕ)) (t x : List ℕ) → lookup (with_constructors known t cs) x ≡ None → (lookup known x ≡ None) × ((i : ℕ) → i < length cs → get_or cs i x ≡ x → ⊥)
none_constructors [] known t x h = (h, λ i l e. absurd (omega arith))
none_constructors (c ∷ cs) known t x h =
    let r = none_constructors cs (with_entry known c t) t x h in
    (none_kept known c t x r.0, at r.0 r.1)
  where
    at : lookup (with_entry known c t) x ≡ None → ((i : ℕ) → i < length cs → get_or cs i x ≡ x → ⊥) → (i : ℕ) → i < length (c ∷ cs) → get_or (c ∷ cs) i x ≡ x → ⊥
    at z f zero l e = let k : lookup (with_entry known c t) c ≡ Some t = entry_new known c t (none_kept known c t c (subst (λ q. lookup (with_entry known c t) q ≡ None) (sym e) z)) in let r = sym k ∙ subst (λ q. lookup (with_entry known c t) q ≡ None) (sym e) z in absurd (cc)
    at z f (suc i) l e = f i (omega arith) e

pub record TypesSoFar (before : List TypeDecl) (s : Scope) : Type 0 where
  pub hidden : (x : List ℕ) → lookup s.types x ≡ None → (more : List TypeDecl) → constructors_of (before ++ more) x ≡ constructors_of more x
  pub found : (x : List ℕ) (d : TypeDecl) → lookup s.types x ≡ Some d → (more : List TypeDecl) → constructors_of (before ++ more) x ≡ d.cons
  pub unknown : (c : List ℕ) → lookup s.constructors c ≡ None → (k : ℕ) (more : List TypeDecl) → constructor_from k (before ++ more) c ≡ constructor_from (k + length before) more c
  pub placed : (c t : List ℕ) → lookup s.constructors c ≡ Some t → (d : TypeDecl) × ((lookup s.types t ≡ Some d) × (Contains d.cons c × ((u : ℕ) × ((j : ℕ) × ((more : List TypeDecl) → constructor_from 0 (before ++ more) c ≡ E u j)))))

types_none : TypesSoFar [] nothing
types_none = record { hidden = λ x h more. refl; found = λ x d h more. absurd (cc); unknown = λ c h k more. ap (λ i. constructor_from i more c) (plus k); placed = λ c t h. absurd (cc) }
  where
    plus : (k : ℕ) → k ≡ k + 0
    plus k = omega arith

types_more : (before : List TypeDecl) (s : Scope) (t : TypeDecl) → TypesSoFar before s → lookup s.types t.name ≡ None → TypesSoFar (before ++ t ∷ []) (behind s (TypeItem t))
types_more before s t p fresh = record {
  hidden = λ x h more.
      ap (λ r. constructors_of r x) (append_more before t more) ∙ p.hidden x (none_kept s.types t.name t x h) (t ∷ more)
      ∙ ap (λ b. if b then t.cons else constructors_of more x) (other x h);
  found = λ x d h more.
      ap (λ r. constructors_of r x) (append_more before t more)
      ∙ entry_cases s.types t.name t x d h (λ k. p.found x d k (t ∷ more))
      (λ e w z. p.hidden x z (t ∷ more) ∙ ap (λ b. if b then t.cons else constructors_of more x) (name_same t.name x (sym e)) ∙ ap (λ (r : TypeDecl). r.cons) w);
  unknown = λ c h k more.
      let q = none_constructors t.cons s.constructors t.name c h in
      ap (λ r. constructor_from k r c) (append_more before t more) ∙ p.unknown c q.0 k (t ∷ more)
      ∙ ap (λ o. or_later (k + length before) o (constructor_from (suc (k + length before)) more c)) (place_none t.cons 0 c q.1)
      ∙ ap (λ i. constructor_from i more c) (further k);
  placed = λ c u h.
      constructor_cases t.cons s.constructors t.name c u h
      (λ k. let q = p.placed c u k in (q.0, (entry_kept s.types t.name t u q.0 q.1.0, (q.1.1.0, (q.1.1.1.0, (q.1.1.1.1.0, λ more. ap (λ r. constructor_from 0 r c) (append_more before t more) ∙ q.1.1.1.1.1 (t ∷ more)))))))
      (λ i w z.
      let j = place_some t.cons 0 c i.0 i.1 i.2 in (
        t,
        (
          subst (λ q. lookup (with_entry s.types t.name t) q ≡ Some t) w (entry_new s.types t.name t fresh),
          (
            i,
            (
              length before,
              (
                j.0,
                λ more.
                    ap (λ r. constructor_from 0 r c) (append_more before t more) ∙ p.unknown c z 0 (t ∷ more)
                    ∙ ap (λ m. or_later m (place_in 0 t.cons c) (constructor_from (suc m) more c)) (zero_plus (length before))
                    ∙ ap (λ o. or_later (length before) o (constructor_from (suc (length before)) more c)) j.1,
              ),
            ),
          ),
        ),
      ));
}
  where
    zero_plus : (k : ℕ) → 0 + k ≡ k
    zero_plus k = omega arith

    further : (k : ℕ) → suc (k + length before) ≡ k + length (before ++ t ∷ [])
    further k = let e = length_more before t in omega arith

    other : (x : List ℕ) → lookup (with_entry s.types t.name t) x ≡ None → bytes_eq t.name x ≡ false
    other x h = cases (bytes_eq t.name x) (λ e. absurd (let k = entry_new s.types t.name t fresh in let r = sym (subst (λ q. lookup (with_entry s.types t.name t) q ≡ Some t) (same_name t.name x e) k) ∙ h in cc)) (λ f. f)

-- ---- programs

grounds_of : (types before more : List TypeDecl) (among : List ℕ → Option Node) (s : Scope) → types ≡ before ++ more → TypesSoFar before s → ((f : List ℕ) → lookup s.nodes f ≡ among f) → Grounds types among s
grounds_of types before more among s e p nodes = record {
  known_types = λ t d h. ap (λ r. constructors_of r t) e ∙ p.found t d h more;
  known_constructors = λ c t h.
      let q = p.placed c t h in (
        subst (λ r. IsOf r (ty.Enum t) (constructor_from 0 r c)) (sym e)
            (subst (λ v. IsOf (before ++ more) (ty.Enum t) v) (sym (q.1.1.1.1.1 more))
            (c, subst (λ r. Contains r c) (sym (p.found t q.0 q.1.0 more)) q.1.1.0, sym (q.1.1.1.1.1 more))),
        ap is_some q.1.0,
      );
  known_nodes = nodes;
}

pub record Listed (n : NameScope) (s : Scope) : Type 0 where
  pub types : (x : List ℕ) → IsSome (lookup s.types x) → Contains n.types x
  pub nodes : (x : List ℕ) → IsSome (lookup s.nodes x) → Contains n.nodes x

listed_name : {A : Type 0} (es : List (List ℕ × A)) (xs : List (List ℕ)) (y : List ℕ) (u : A) → ((x : List ℕ) → IsSome (lookup es x) → Contains xs x) → (x : List ℕ) → IsSome (lookup (with_entry es y u) x) → Contains (with_name xs y) x
listed_name {A} es xs y u f x h =
    let q = taken (lookup (with_entry es y u) x) h in
    entry_cases es y u x q.0 q.1 (λ k. kept_name xs y x (f x (ap is_some k))) (λ e w z. subst (λ r. Contains (with_name xs y) r) (sym e) (new_name xs y))

none_of : {A : Type 0} (es : List (List ℕ × A)) (xs : List (List ℕ)) (y : List ℕ) → ((x : List ℕ) → IsSome (lookup es x) → Contains xs x) → (Contains xs y → ⊥) → lookup es y ≡ None
none_of {A} es xs y f g = by (lookup es y) refl
  where
    by : (o : Option A) → lookup es y ≡ o → lookup es y ≡ None
    by None e = e
    by (Some u) e = absurd (g (f y (ap is_some e)))

pub node_more : (s : Scope) (m : Node) (among : List ℕ → Option Node) → lookup s.nodes m.name ≡ None → ((f : List ℕ) → lookup s.nodes f ≡ among f) → (f : List ℕ) → lookup (with_entry s.nodes m.name m) f ≡ (if bytes_eq m.name f then Some m else among f)
node_more s m among fresh k f = by (bytes_eq m.name f) refl
  where
    not_new : IsFalse (bytes_eq m.name f) → (o : Option Node) → lookup (with_entry s.nodes m.name m) f ≡ o → o ≡ lookup s.nodes f
    not_new e None h = sym (none_kept s.nodes m.name m f h)
    not_new e (Some v) h = entry_cases s.nodes m.name m f v h (λ q. sym q) (λ q w z. true_false (bytes_eq m.name f) (name_same m.name f (sym q)) e)

    by : (b : Bool) → bytes_eq m.name f ≡ b → lookup (with_entry s.nodes m.name m) f ≡ (if b then Some m else among f)
    by true e = subst (λ z. lookup (with_entry s.nodes m.name m) z ≡ Some m) (same_name m.name f e) (entry_new s.nodes m.name m fresh)
    by false e = not_new e (lookup (with_entry s.nodes m.name m) f) refl ∙ k f

-- what is known of both scopes in front of an item
pub record Before (types before more : List TypeDecl) (n : NameScope) (done : List Item) : Type 0 where
  pub split : types ≡ before ++ more
  pub so_far : TypesSoFar before (scope_behind done)
  pub nodes : (f : List ℕ) → lookup (scope_behind done).nodes f ≡ node_among done f
  pub listed : Listed n (scope_behind done)
  pub sees : Sees n no_names
  pub variables : (x : List ℕ) → lookup (scope_behind done).variables x ≡ None
  pub no_last : (x : List ℕ) → Contains n.lasts x → ⊥

-- With what is known in front of each node.
abbrev pub AllSound : List TypeDecl → List Item → List Item → Type 0
AllSound types done [] = ⊤
AllSound types done (TypeItem t ∷ items) = AllSound types (TypeItem t ∷ done) items
AllSound types done (NodeItem n ∷ items) =
    (Grounds types (node_among done) (scope_behind done) × ((lookup (scope_behind done).nodes n.name ≡ None) × NodeSound types (node_among done) (scope_behind done) n)) × AllSound types (NodeItem n ∷ done) items

pub as_sound : (types : List TypeDecl) (done items : List Item) → AllSound types done items → AreSound types done items
as_sound types done [] h = tt
as_sound types done (TypeItem t ∷ items) h = as_sound types (TypeItem t ∷ done) items h
as_sound types done (NodeItem n ∷ items) h = (h.0.1.1, as_sound types (NodeItem n ∷ done) items h.1)

items_sound : (types before : List TypeDecl) (n : NameScope) (done items : List Item) → Before types before (types_of items) n done → EachNode NodeScoped items → EachNode NodeArmed items → ItemsAreNamed n items → ItemsAreTyped (scope_behind done) items → ItemsHaveTypes (scope_behind done) items → ItemsAreDefined (scope_behind done) items → AllSound types done items
items_sound types before n done [] b sc a m t h d = tt
items_sound types before n done (TypeItem y ∷ items) b sc a m t h d =
    items_sound types (before ++ y ∷ []) (names.behind n (TypeItem y)) (TypeItem y ∷ done) items
    (record {
      split = b.split ∙ sym (append_more before y (types_of items));
      so_far = types_more before (scope_behind done) y b.so_far (none_of (scope_behind done).types n.types y.name b.listed.types m.0.0);
      nodes = b.nodes;
      listed = record { types = listed_name (scope_behind done).types n.types y.name y b.listed.types; nodes = b.listed.nodes };
      sees = b.sees;
      variables = b.variables;
      no_last = b.no_last;
    }) sc a m.1 t.1 h.1 d.1
items_sound types before n done (NodeItem y ∷ items) b sc a m t h d = (
  (
    grounds_of types before (types_of items) (node_among done) (scope_behind done) b.split b.so_far b.nodes,
    (
      none_of (scope_behind done).nodes n.nodes y.name b.listed.nodes m.0.0,
      node_sound types (node_among done) n (scope_behind done)
          (record { sees = b.sees; unknown = b.variables; no_last = b.no_last; grounds = grounds_of types before (types_of items) (node_among done) (scope_behind done) b.split b.so_far b.nodes })
          y sc.0 a.0 m.0.1 t.0 h.0 d.0,
    ),
  ),
  items_sound types before (names.behind n (NodeItem y)) (NodeItem y ∷ done) items
      (record {
        split = b.split;
        so_far = record { hidden = b.so_far.hidden; found = b.so_far.found; unknown = b.so_far.unknown; placed = b.so_far.placed };
        nodes = node_more (scope_behind done) y (node_among done) (none_of (scope_behind done).nodes n.nodes y.name b.listed.nodes m.0.0) b.nodes;
        listed = record { types = b.listed.types; nodes = listed_name (scope_behind done).nodes n.nodes y.name y b.listed.nodes };
        sees = b.sees;
        variables = b.variables;
        no_last = b.no_last;
      }) sc.1 a.1 m.1 t.1 h.1 d.1,
)

no_entry : {A : Type 0} (x : List ℕ) → Contains [] x → A
no_entry {A} x h = let q = h.1 in absurd (omega arith)

pub judged_sound : (program : List Item) → EachNode NodeScoped program → EachNode NodeArmed program → WellNamed program → WellTyped program → HaveTypes program → WellDefined program → AllSound (types_of program) [] program
judged_sound program sc a m t h d =
    items_sound (types_of program) [] names.nothing [] program
    (record {
      split = refl;
      so_far = types_none;
      nodes = λ f. refl;
      listed = record { types = λ x k. absurd (cc); nodes = λ x k. absurd (cc) };
      sees = ((λ x k. no_entry x k), λ x k. absurd (cc));
      variables = λ x. refl;
      no_last = λ x k. no_entry x k;
    }) sc a m t h d
