-- An equation for some names: they have the values of its right side, by which they may be given its wires.
use Rattle.std.proofs.Common.{◌≡◌, ℕ, Bool, true, false, ◌||◌, if◌then◌else◌, List, [], ◌∷◌, length, reverse, Some, refl, sym, ap, subst, ◌∙◌}
use Rattle.std.specs.Str.{bytes_eq}
use Rattle.hp_base.specs.declared.span.Span.{Span}
use Rattle.hp_base.specs.declared.ty.Ty.{Ty}
use Rattle.hp_base.specs.declared.value.Value.{Value}
use Rattle.hp_tree.specs.Blocks.{Decl}
use Rattle.hp_tree.specs.Expressions.{Expr, constant, variable, last_of, one, two, choose, pre, fby, arrow, when_is, merge, call}
use Rattle.hp_tree.specs.Instant.{Named, Instance, Instant, part, top, Place as TreePlace}
use Rattle.hp_tree.specs.Meaning as meaning
use Rattle.hp_tree.specs.Meaning.{Names, node_among, is_among, names_of, output_for, clock_in}
use Rattle.hp_base.specs.Known.Known.{lookup}
use Rattle.hp_meaning.specs.Causal.Clocked.{IsOn, ClockRight}
use Rattle.hp_meaning.specs.Causal.Points.{calls}
use Rattle.hp_typing.specs.Types.{type_of, types_in}
use Rattle.law_judged.specs.Typed.Scopes.{Scope}
use Rattle.law_values.specs.Valued.Judged.{ExprSound, RightSound, LeftsAre}
use Rattle.law_values.proofs.ValuedLemmas.Typed.{row_typed}
use Rattle.hp_meaning.specs.Contract.Memory.{number_in}
use Rattle.law_games.specs.Wires.Wired.{Held, wired}
use Rattle.law_games.specs.Wires.WiredBlocks.{right_in}
use Rattle.law_games.specs.Wiretyped.Typed.{ExprTyped}
use Rattle.law_games.specs.Wiretyped.Kept.{ExprKept, ExprGiven}
use Rattle.law_games.specs.Wiretyped.Callees.{CalleeTyped, CalleeKept, CalleeGiven}
use Rattle.hp_drawing.specs.declared.parts.Place.{Place}
use Rattle.hp_drawing.specs.Sketch.{Sketch}
use Rattle.hp_drawing.specs.DrawnBlocks.{path_of, drawn_definition}
use Rattle.law_drawing.specs.Carrying.Drawing.{AreHeld, IsReady}
use Rattle.law_drawing.specs.Carrying.Typing.{PathFits}
use Rattle.law_drawing.specs.Carrying.Drawable.{LeftsApart}
use Rattle.law_drawing.specs.Carrying.Laws.{Frame, FrameCalls, Sight, IsSight, slots_of}
use Rattle.law_drawing.specs.Carrying.BlockLaws.{AllHave, EachHas, IsSingle}
use Rattle.law_drawing.proofs.CarryingLemmas.Layers.{same-name, self-name}
use Rattle.law_drawing.proofs.CarryingLemmas.BlockLaws.{defined, call-defined}
use Rattle.law_drawing.proofs.CarryingLemmas.Conditions.{Draws, ExprPart, wired-at}
use Rattle.law_drawing.proofs.CarryingLemmas.Enter.{true_or_not}
use Rattle.law_games.specs.Wires.WiredCallees.{callee_wires}

or-left : (a b : Bool) → a ≡ true → a || b ≡ true
or-left true b h = refl
or-left false b h = absurd cc

or-right : (a b : Bool) → b ≡ true → a || b ≡ true
or-right true b h = refl
or-right false b h = h

-- ---- names on a left side

pub all-have : (names : Names) (ys : List (List ℕ × Span)) (v : Value) → ((x : List ℕ) → is_among ys x ≡ true → names x ≡ v) → AllHave names ys v
all-have names [] v h = tt
all-have names (y ∷ ys) v h = (ap number_in (h y.0 (or-left (bytes_eq y.0 y.0) (is_among ys y.0) (self-name y.0))), all-have names ys v (λ x q. h x (or-right (bytes_eq y.0 x) (is_among ys x) q)))

pub each-has : (names : Names) (s : Scope) (ys : List (List ℕ × Span)) (ds : List Decl) (i : Instant) → LeftsApart ys → LeftsAre s ys ds → ((x : List ℕ) → is_among ys x ≡ true → names x ≡ output_for ys (names_of ds) i x) → EachHas names ys ds i
each-has names s [] ds i a l h = tt
each-has names s (y ∷ ys) [] i a l h = absurd l
each-has names s (y ∷ ys) (d ∷ ds) i a l h = (
  ap number_in (h y.0 (or-left (bytes_eq y.0 y.0) (is_among ys y.0) (self-name y.0)) ∙ ap (λ b. if b then i (Named d.name ∷ []) else output_for ys (names_of ds) i y.0) (self-name y.0)),
  each-has names s ys ds i a.1 l.1 (λ x q. h x (or-right (bytes_eq y.0 x) (is_among ys x) q) ∙ ap (λ b. if b then i (Named d.name ∷ []) else output_for ys (names_of ds) i x) (other x q)),
)
  where
    other : (x : List ℕ) → is_among ys x ≡ true → bytes_eq y.0 x ≡ false
    other x q = true_or_not (bytes_eq y.0 x) (λ e. absurd (let c : true ≡ false = sym q ∙ ap (is_among ys) (sym (same-name y.0 x e)) ∙ a.0 in cc)) (λ e. e)

module _ (F : Frame) (K : FrameCalls F) (V : Sight) (S : IsSight F V) (ds : List Decl) (paths : (x : List ℕ) → (reverse (path_of V.drawn_scope ds x) ≡ clock_in ds x) × PathFits V.scope (path_of V.drawn_scope ds x)) (place : Place) (here cut kept : Bool) where
  abbrev Right : List (List ℕ × Span) → Expr → Held → Instant → List ℕ → Value
  Right ys e m now x = right_in F.types (callee_wires F.types F.earlier) ys e (wired F.types (callee_wires F.types F.earlier) e V.names V.last m now) x

  single-assigned : (ys : List (List ℕ × Span)) (e : Expr) (t : Ty) (m : Held) (now stay : Instant) (w : TreePlace → TreePlace) (d : Sketch) (ns : List ℕ) → IsSingle e → ClockRight V.standing (meaning.clock_of ds ys e) → IsOn V.standing e (meaning.clock_of ds ys e)
      → ExprSound F.types (node_among F.earlier) V.scope V.has_last e → type_of V.scope e ≡ Some t → ExprKept F.types (CalleeKept F.types F.earlier) V.scope e m.start m.memory → ExprGiven F.types (CalleeGiven F.types F.earlier) V.scope e m.free → ExprTyped F.types (CalleeTyped F.types F.earlier) V.scope e now
      → ((x : List ℕ) → is_among ys x ≡ true → V.names x ≡ top (wired F.types (callee_wires F.types F.earlier) e V.names V.last m now)) → ExprPart F K V e (meaning.clock_of ds ys e) m now stay w here cut kept
      → IsReady F.slot F.types V.names V.last V.drawn_scope place [] here cut kept d ns → AreHeld F.slot F.raw F.given (slots_of F V e w) (length d.slots)
      → (ns' : List ℕ) × Draws F K d ns (slots_of F V e w) (calls e w) (drawn_definition F.told F.brings V.drawn_scope place ds ys e d) ns'
  single-assigned ys e t m now stay w d ns i right on ok te k g y eq p r h =
      let x = defined F V ds ys e t m now stay w place here cut kept d ns K S i (record { numbered = S.numbered; named = S.named; solved = r.solved; values = r.values; paths = paths; type_is = te; right = right })
      (wired-at F K V e (meaning.clock_of ds ys e) t m now stay w here cut kept on ok te k g y p) (all-have V.names ys (top now) (λ x q. eq x q ∙ sym (ap top p.solves))) r h in
      (x.numbers, x.drawn_is)

  pub assigned : (ys : List (List ℕ × Span)) (e : Expr) (m : Held) (now stay : Instant) (w : TreePlace → TreePlace) (d : Sketch) (ns : List ℕ) → ClockRight V.standing (meaning.clock_of ds ys e) → IsOn V.standing e (meaning.clock_of ds ys e)
      → RightSound F.types (node_among F.earlier) V.scope V.has_last ys e → ExprKept F.types (CalleeKept F.types F.earlier) V.scope e m.start m.memory → ExprGiven F.types (CalleeGiven F.types F.earlier) V.scope e m.free → ExprTyped F.types (CalleeTyped F.types F.earlier) V.scope e now → LeftsApart ys
      → ((x : List ℕ) → is_among ys x ≡ true → V.names x ≡ Right ys e m now x) → ExprPart F K V e (meaning.clock_of ds ys e) m now stay w here cut kept
      → IsReady F.slot F.types V.names V.last V.drawn_scope place [] here cut kept d ns → AreHeld F.slot F.raw F.given (slots_of F V e w) (length d.slots)
      → (ns' : List ℕ) × Draws F K d ns (slots_of F V e w) (calls e w) (drawn_definition F.told F.brings V.drawn_scope place ds ys e d) ns'
  assigned ys (call a f il es) m now stay w d ns right on ok k g y ap' eq p r h =
      let e = call a f il es in
      let q = row_typed (lookup V.scope.nodes f) (types_in V.scope es) ok.1.0 ok.1.1.0 in
      let n = q.0 in
      let found : node_among F.earlier f ≡ Some n = sym ok.0.0 ∙ q.1 in
      let os : (callee_wires F.types F.earlier).outputs f ≡ names_of n.outputs = K.names f n found in
      let i = part Instance (wired F.types (callee_wires F.types F.earlier) e V.names V.last m now) in
      let ls : LeftsAre V.scope ys n.outputs = subst (λ o. LeftsAre V.scope ys o) (sym q.3) ok.1.1.1 in
      let each = each-has V.names V.scope ys n.outputs (part Instance now) ap' ls (λ x z. eq x z ∙ ap (λ o. output_for ys o i x) os ∙ ap (λ j. output_for ys (names_of n.outputs) (part Instance j) x) (sym p.solves)) in
      let x = call-defined F V ds ys a f il es n m now stay w place here cut kept d ns K S paths right
      (record { on = on; sound = ok.0; found = found; args = q.2; shape = k; fits = g; typed = y; solves = p.solves; zeros = p.zeros; given = p.given; stored = p.stored; placed = p.placed; same = p.same }) each r h in
      (x.numbers, x.drawn_is)
  assigned ys (constant a c) m now stay w d ns right on ok k g y ap' eq p r h = single-assigned ys (constant a c) ok.1.0 m now stay w d ns tt right on ok.0 ok.1.1.0 k g y eq p r h
  assigned ys (variable a c) m now stay w d ns right on ok k g y ap' eq p r h = single-assigned ys (variable a c) ok.1.0 m now stay w d ns tt right on ok.0 ok.1.1.0 k g y eq p r h
  assigned ys (last_of a c) m now stay w d ns right on ok k g y ap' eq p r h = single-assigned ys (last_of a c) ok.1.0 m now stay w d ns tt right on ok.0 ok.1.1.0 k g y eq p r h
  assigned ys (one a o b) m now stay w d ns right on ok k g y ap' eq p r h = single-assigned ys (one a o b) ok.1.0 m now stay w d ns tt right on ok.0 ok.1.1.0 k g y eq p r h
  assigned ys (two a o b c) m now stay w d ns right on ok k g y ap' eq p r h = single-assigned ys (two a o b c) ok.1.0 m now stay w d ns tt right on ok.0 ok.1.1.0 k g y eq p r h
  assigned ys (choose a b c u) m now stay w d ns right on ok k g y ap' eq p r h = single-assigned ys (choose a b c u) ok.1.0 m now stay w d ns tt right on ok.0 ok.1.1.0 k g y eq p r h
  assigned ys (pre a b) m now stay w d ns right on ok k g y ap' eq p r h = single-assigned ys (pre a b) ok.1.0 m now stay w d ns tt right on ok.0 ok.1.1.0 k g y eq p r h
  assigned ys (fby a b c) m now stay w d ns right on ok k g y ap' eq p r h = single-assigned ys (fby a b c) ok.1.0 m now stay w d ns tt right on ok.0 ok.1.1.0 k g y eq p r h
  assigned ys (arrow a b c) m now stay w d ns right on ok k g y ap' eq p r h = single-assigned ys (arrow a b c) ok.1.0 m now stay w d ns tt right on ok.0 ok.1.1.0 k g y eq p r h
  assigned ys (when_is a b c u) m now stay w d ns right on ok k g y ap' eq p r h = single-assigned ys (when_is a b c u) ok.1.0 m now stay w d ns tt right on ok.0 ok.1.1.0 k g y eq p r h
  assigned ys (merge a x ps) m now stay w d ns right on ok k g y ap' eq p r h = single-assigned ys (merge a x ps) ok.1.0 m now stay w d ns tt right on ok.0 ok.1.1.0 k g y eq p r h
