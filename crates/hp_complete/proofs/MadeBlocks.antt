-- Sketches of blocks grow, and all is in range.
use Rattle.std.proofs.Common.{ℕ, ◌<◌, Bool, true, false, if◌then◌else◌, List, [], ◌∷◌, Option, None, Some}
use Rattle.std.specs.Prelude.{IfSome, codes}
use Rattle.std.specs.Str.{bytes_eq}
use Rattle.hp_base.specs.declared.ty.Const.{Const}
use Rattle.hp_tree.specs.Blocks.{Decl, Block, block, Eqns, no_eqn, more_eqns, Eqn, define, switch, reset, automaton, Arms, no_arm, more_arms}
use Rattle.hp_tree.specs.Meaning.{declares}
use Rattle.hp_flat.specs.declared.node.FlatTy.{FlatTy}
use Rattle.hp_flat.specs.Equations.{register}
use Rattle.law_equations.specs.Flattened.Flatten.{is_false}
use Rattle.law_equations.specs.Made.Making.{Known, Sketch, Site, Sight, Layer, Made, Seen, Standing, Body, Inner, next, with_variable, new_variable, named_value, atom_of, constant_value, cons_number, on_site, restart_site, in_block, with_flag, put, over, hidden, is_in, given_by, bind, link_all, names_of_eqns, names_of_arms, names_of_block, each_once, keeps_name, own_variable, with_own, own_name, own_names, declared, type_declared, remember, remember_all, block_layer, sketch_expr, sketch_block, sketch_eqns, sketch_eqn, sketch_arms}
use Rattle.law_equations.specs.Made.Sights.{Entry}
use Rattle.hp_complete.proofs.MadeRanges.{IsLow, SightLow, LayerLow, SiteLow, SketchLow, IsHere, Grown, GrownTo, grown-same, grown-then, sight-later, layer-later, here-later, number-later, some-later, site-later, variable-grown, new-grown, named-grown, with_flag-grown, fresh-low, held-low, on-low, restart-low, block-low, bind-grown, over-low}
use Rattle.hp_complete.proofs.MadeExpressions.{expr-grown, definition-grown}

-- a layer beside a sketch that has grown
pub record GrownSeen (d : Sketch) (s : Seen) : Type 0 where
  pub grown : Grown d s.1
  pub layer : LayerLow (next s.1) s.0

pub seen-then : (d e : Sketch) (s : Seen) → Grown d e → GrownSeen e s → GrownSeen d s
seen-then d e s g h = record { grown = grown-then d e s.1 g h.grown; layer = h.layer }

put_by : (n : ℕ) (e : Entry) (o : Option Entry) (b : Bool) → IsLow n e → IfSome o (IsLow n) → IfSome (if b then Some e else o) (IsLow n)
put_by n e o true h g = h
put_by n e o false h g = g

pub put-low : (n : ℕ) (y : List ℕ) (e : Entry) (layer : Layer) → IsLow n e → LayerLow n layer → LayerLow n (put y e layer)
put-low n y e layer h g x = put_by n e (layer x) (bytes_eq y x) h (g x)

hidden_low : (n : ℕ) (names : List (List ℕ)) (out : Sight) → SightLow n out → LayerLow n (hidden names out)
hidden_low n names out h x = by (is_in names x)
  where
    by : (b : Bool) → IfSome (if b then Some (record { ty = (out x).ty; value = (out x).last; last = (out x).last; is_local = false }) else None) (IsLow n)
    by true = record { value = (h x).last; last = (h x).last }
    by false = tt

pub inside-low : (n : ℕ) (names : List (List ℕ)) (out : Sight) → SightLow n out → SightLow n (over (hidden names out) out)
inside-low n names out h = over-low n (hidden names out) out (hidden_low n names out h) h

-- ---- the names of a block

own_variable_grown : (standing : Standing) (ds : List Decl) (x : List ℕ) (t : FlatTy) (d : Sketch) → SketchLow d → GrownTo d (own_variable standing ds x t d)
own_variable_grown Body ds x t d low = by (keeps_name ds x)
  where
    by : (b : Bool) → GrownTo d (if b then (with_variable x t d, next d) else new_variable x t d)
    by true = variable-grown x t d low
    by false = new-grown x t d low
own_variable_grown Inner ds x t d low = new-grown x t d low

with_own_grown : (ds : List Decl) (x : List ℕ) (e : Entry) (own : Layer) (d : Sketch) (m : Made) → GrownTo d m → IsLow (next d) e → LayerLow (next d) own → GrownSeen d (with_own ds x e own m)
with_own_grown ds x e own d m g h l = record {
  grown = g.grown;
  layer = put-low (next m.0) x _ own (record { value = g.number; last = some-later d m.0 e.last g.grown h.last }) (layer-later d m.0 own g.grown l);
}

seen_same : (s : Seen) → SketchLow s.1 → LayerLow (next s.1) s.0 → GrownSeen s.1 s
seen_same s low layer = record { grown = grown-same s.1 low; layer = layer }

own_name_grown : (standing : Standing) (ds : List Decl) (out : Sight) (x : List ℕ) (s : Seen) → SketchLow s.1 → LayerLow (next s.1) s.0 → SightLow (next s.1) out → GrownSeen s.1 (own_name standing ds out x s)
own_name_grown Body ds out x s low layer see = by (declares ds x)
  where
    by : (b : Bool) → GrownSeen s.1 (if b then with_own ds x (over s.0 out x) s.0 (own_variable Body ds x (over s.0 out x).ty s.1) else s)
    by true = with_own_grown ds x (over s.0 out x) s.0 s.1 _ (own_variable_grown Body ds x (over s.0 out x).ty s.1 low) (over-low (next s.1) s.0 out layer see x) layer
    by false = seen_same s low layer
own_name_grown Inner ds out x s low layer see =
    with_own_grown ds x (over s.0 out x) s.0 s.1 _ (own_variable_grown Inner ds x (over s.0 out x).ty s.1 low) (over-low (next s.1) s.0 out layer see x) layer

own_names_grown : (standing : Standing) (ds : List Decl) (out : Sight) (xs : List (List ℕ)) (s : Seen) → SketchLow s.1 → LayerLow (next s.1) s.0 → SightLow (next s.1) out → GrownSeen s.1 (own_names standing ds out xs s)
own_names_grown standing ds out [] s low layer see = seen_same s low layer
own_names_grown standing ds out (x ∷ xs) s low layer see =
    let r = own_name standing ds out x s in
    let g = own_name_grown standing ds out x s low layer see in
    seen-then s.1 r.1 (own_names standing ds out xs r) g.grown (own_names_grown standing ds out xs r g.grown.low g.layer (sight-later s.1 r.1 out g.grown see))

module _ (k : Known) where
  declared_low : (n : ℕ) (ds : List Decl) (out : Sight) → SightLow n out → LayerLow n (declared k ds out)
  declared_low n ds out h x = by (declares ds x)
    where
      by : (b : Bool) → IfSome (if b then Some (record { ty = type_declared k ds x; value = (out x).value; last = (out x).last; is_local = true }) else None) (IsLow n)
      by true = record { value = (h x).value; last = (h x).last }
      by false = tt

  -- ---- last values

  remember_grown : (at : Site) (out : Sight) (d : Decl) (c : Option Const) (s : Seen) → SketchLow s.1 → LayerLow (next s.1) s.0 → SightLow (next s.1) out → SiteLow (next s.1) at → GrownSeen s.1 (remember k at out d c s)
  remember_grown at out d None s low layer see site = seen_same s low layer
  remember_grown at out d (Some c) s low layer see site =
      let e = over s.0 out d.name in
      let h = over-low (next s.1) s.0 out layer see d.name in
      let m = named_value at (codes "last") e.ty (register (constant_value k c) (atom_of e.value)) s.1 in
      let g = named-grown at (codes "last") e.ty (register (constant_value k c) (atom_of e.value)) s.1 low site (held-low (next s.1) (constant_value k c) e.value h.value) in
      record {
        grown = g.grown;
        layer = put-low (next m.0) d.name _ s.0 (record { value = some-later s.1 m.0 e.value g.grown h.value; last = g.number }) (layer-later s.1 m.0 s.0 g.grown layer);
      }

  pub remember-grown : (at : Site) (out : Sight) (ds : List Decl) (s : Seen) → SketchLow s.1 → LayerLow (next s.1) s.0 → SightLow (next s.1) out → SiteLow (next s.1) at → GrownSeen s.1 (remember_all k at out ds s)
  remember-grown at out [] s low layer see site = seen_same s low layer
  remember-grown at out (d ∷ ds) s low layer see site =
      let r = remember k at out d d.last s in
      let g = remember_grown at out d d.last s low layer see site in
      seen-then s.1 r.1 (remember_all k at out ds r) g.grown (remember-grown at out ds r g.grown.low g.layer (sight-later s.1 r.1 out g.grown see) (site-later s.1 r.1 at g.grown site))

  layer_grown : (standing : Standing) (out : Sight) (at : Site) (ds : List Decl) (names : List (List ℕ)) (d : Sketch) → IsHere out at d → GrownSeen d (block_layer k standing out at ds names d)
  layer_grown standing out at ds names d h =
      let s = own_names standing ds out names (declared k ds out, d) in
      let g = own_names_grown standing ds out names (declared k ds out, d) h.low (declared_low (next d) ds out h.sight) h.sight in
      seen-then d s.1 (remember_all k at out ds s) g.grown (remember-grown at out ds s g.grown.low g.layer (sight-later d s.1 out g.grown h.sight) (site-later d s.1 at g.grown h.site))

  -- ---- what blocks give

  given_low : (n : ℕ) (o : Option Entry) (e : Entry) → IfSome o (IsLow n) → IsLow n e → IfSome (given_by o e) (λ x. x < n)
  given_low n None e h g = g.last
  given_low n (Some f) e h g = by f.is_local
    where
      by : (b : Bool) → IfSome (if b then e.last else f.value) (λ x. x < n)
      by true = g.last
      by false = h.value

  link_grown : (out : Sight) (at : Site) (own : Layer) (xs : List (List ℕ)) (d : Sketch) → IsHere out at d → LayerLow (next d) own → Grown d (link_all out at own xs d)
  link_grown out at own [] d h l = grown-same d h.low
  link_grown out at own (x ∷ xs) d h l =
      let source = given_by (own x) (out x) in
      let e = bind at (out x).value source d in
      let g = bind-grown at (out x).value source d h.low h.site (h.sight x).value (given_low (next d) (own x) (out x) (l x) (h.sight x)) in
      grown-then d e (link_all out at own xs e) g (link_grown out at own xs e (here-later out at d e g h) (layer-later d e own g l))

  -- ---- equations

  either_grown : (b : Bool) (d e f : Sketch) → Grown d e → Grown d f → Grown d (if b then e else f)
  either_grown true d e f h g = h
  either_grown false d e f h g = g

  unflagged : (d e : Sketch) → Grown (with_flag None d) e → Grown d e
  unflagged d e g = record { more = g.more; variables = g.variables; low = g.low }

  restarted : (d : Sketch) (r : Seen) → GrownSeen (with_flag None d) r → IfSome d.flag (λ x. x < next d) → Grown d (with_flag d.flag r.1)
  restarted d r q flag = let g = unflagged d r.1 q.grown in with_flag-grown d r.1 d.flag g (some-later d r.1 d.flag g flag)

  mutual
    pub block-grown : (b : Block) (standing : Standing) (out : Sight) (at : Site) (d : Sketch) → IsHere out at d → GrownSeen d (sketch_block k standing out at b d)
    block-grown (block ds es) standing out at d h =
        let s = block_layer k standing out at ds (each_once [] (names_of_eqns es)) d in
        let g = layer_grown standing out at ds (each_once [] (names_of_eqns es)) d h in
        let see = over-low (next s.1) s.0 out g.layer (sight-later d s.1 out g.grown h.sight) in
        let r = eqns_grown es ds (over s.0 out) at s.1 (record { sight = see; site = site-later d s.1 at g.grown h.site; low = g.grown.low }) in
        record { grown = grown-then d s.1 _ g.grown r; layer = layer-later s.1 _ s.0 r g.layer }

    eqns_grown : (es : Eqns) (ds : List Decl) (see : Sight) (at : Site) (d : Sketch) → IsHere see at d → Grown d (sketch_eqns k see at ds es d)
    eqns_grown no_eqn ds see at d h = grown-same d h.low
    eqns_grown (more_eqns e es) ds see at d h =
        let m = sketch_eqn k see at ds e d in
        let g = eqn_grown e ds see at d h in
        grown-then d m (sketch_eqns k see at ds es m) g (eqns_grown es ds see at m (here-later see at d m g h))

    eqn_grown : (e : Eqn) (ds : List Decl) (see : Sight) (at : Site) (d : Sketch) → IsHere see at d → Grown d (sketch_eqn k see at ds e d)
    eqn_grown (define s ys e) ds see at d h = definition-grown k ds ys e see at d h
    eqn_grown (switch s e arms) ds see at d h =
        let names = each_once [] (names_of_arms arms) in
        let t = sketch_expr k see at e d in
        let g = expr-grown k e see at d h in
        let l = here-later see at d t.0 g.grown h in
        grown-then d t.0 _ g.grown (arms_grown arms see (over (hidden names see) see) at names t.1 t.0 l (inside-low (next t.0) names see l.sight) g.number)
    eqn_grown (reset s b e) ds see at d h =
        let names = each_once [] (names_of_block b) in
        let inside = over (hidden names see) see in
        let m = sketch_block k Inner inside at b d in
        let p = block-grown b Inner inside at d (record { sight = inside-low (next d) names see h.sight; site = h.site; low = h.low }) in
        let t = sketch_expr k see at e d in
        let g = expr-grown k e see at d h in
        let l = here-later see at d t.0 g.grown h in
        let r = sketch_block k Inner inside (in_block (restart_site at t.1)) b (with_flag None t.0) in
        let q = block-grown b Inner inside (in_block (restart_site at t.1)) (with_flag None t.0) (record { sight = inside-low (next t.0) names see l.sight; site = block-low (next t.0) (restart_site at t.1) (restart-low (next t.0) at t.1 l.site g.number); low = fresh-low t.0 l.low }) in
        let w = restarted t.0 r q l.low.flag in
        let on = grown-then d t.0 (with_flag t.0.flag r.1) g.grown w in
        either_grown (is_false e) d (link_all see at m.0 names m.1) (link_all see at r.0 names (with_flag t.0.flag r.1))
        (grown-then d m.1 _ p.grown (link_grown see at m.0 names m.1 (here-later see at d m.1 p.grown h) p.layer))
        (grown-then d (with_flag t.0.flag r.1) _ on (link_grown see at r.0 names (with_flag t.0.flag r.1) (here-later see at d (with_flag t.0.flag r.1) on h) q.layer))
    eqn_grown (automaton s ss) ds see at d h = grown-same d h.low

    arms_grown : (arms : Arms) (see inside : Sight) (at : Site) (names : List (List ℕ)) (t : ℕ) (d : Sketch) → IsHere see at d → SightLow (next d) inside → t < next d → Grown d (sketch_arms k see inside at names t arms d)
    arms_grown no_arm see inside at names t d h i lt = grown-same d h.low
    arms_grown (more_arms c b s arms) see inside at names t d h i lt =
        let on = on_site at t (cons_number k c) in
        let site = on-low (next d) at t (cons_number k c) h.site lt in
        let m = sketch_block k Inner inside (in_block on) b (with_flag None d) in
        let p = block-grown b Inner inside (in_block on) (with_flag None d) (record { sight = i; site = block-low (next d) on site; low = fresh-low d h.low }) in
        let q = unflagged d m.1 p.grown in
        let l = link_grown see on m.0 names m.1 (record { sight = sight-later d m.1 see q h.sight; site = site-later d m.1 on q site; low = p.grown.low }) p.layer in
        let linked = link_all see on m.0 names m.1 in
        let w = grown-then d m.1 linked q l in
        let e = with_flag d.flag linked in
        let whole = with_flag-grown d linked d.flag w (some-later d linked d.flag w h.low.flag) in
        grown-then d e (sketch_arms k see inside at names t arms e) whole (arms_grown arms see inside at names t e (here-later see at d e whole h) (sight-later d e inside whole i) (number-later d e t whole lt))
