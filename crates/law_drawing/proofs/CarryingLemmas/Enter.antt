-- Entering a block: its names have wires, and so have their last values.
use Rattle.std.proofs.Common.{◌≡◌, ℕ, Bool, true, false, ◌||◌, if◌then◌else◌, List, [], ◌∷◌, ◌++◌, length, Option, None, Some, refl, sym, ap, subst, ◌∙◌, inl, inr}
use Rattle.std.specs.Prelude.{is_some}
use Rattle.std.specs.Str.{bytes_eq}
use Rattle.std.proofs.lemmas.Option.{same_Some}
use Rattle.std.proofs.lemmas.List.{append_assoc}
use Rattle.hp_base.specs.declared.ty.Ty.{Ty}
use Rattle.hp_base.specs.declared.ty.Const.{Const}
use Rattle.hp_base.specs.declared.value.Value.TheVariants.{Absent}
use Rattle.hp_tree.specs.Blocks.{Decl, block, Eqns}
use Rattle.hp_tree.specs.ExpressionTypes as types_shown
use Rattle.hp_tree.specs.ExpressionTypes.{typed_in}
use Rattle.hp_tree.specs.Instant.{Named, Instant, Place as TreePlace}
use Rattle.hp_tree.specs.Meaning.{Names, declares, some_defines, inside as inside_names, lasts, absent}
use Rattle.hp_tree.specs.Programs.{TypeDecl, Node}
use Rattle.hp_base.specs.Known.Known.{lookup}
use Rattle.hp_typing.specs.Scopes.{with_variables}
use Rattle.law_judged.specs.Typed.Scopes.{Scope as TypeScope}
use Rattle.law_values.specs.Valued.Judged.{Lasts, lasts_in as known_lasts, DeclsSound, OthersKnown}
use Rattle.law_values.proofs.ValuedLemmas.Scoped.{not_declared, still_known}
use Rattle.hp_meaning.specs.Causal.Points.{Placed}
use Rattle.hp_meaning.specs.Contract.Memory.{number_in, is_last}
use Rattle.hp_meaning.specs.Contract.Slots as slots
use Rattle.hp_meaning.specs.Contract.Slots.{is_int}
use Rattle.law_games.specs.Mirror.Memories.{AreApart}
use Rattle.law_games.specs.Wires.Wired.{lasts_in, value}
use Rattle.law_games.specs.Wiretyped.Typed.{IsWire, NamesTyped}
use Rattle.law_games.specs.Wiretyped.Kept.{LastsKept}
use Rattle.law_games.proofs.WiretypedLemmas.Exprs.{LastsAre, as_wire}
use Rattle.law_games.proofs.WiretypedLemmas.Scopes.{last_declared, last_further}
use Rattle.hp_drawing.specs.declared.parts.Entry.{Entry}
use Rattle.hp_drawing.specs.declared.parts.Place.{Place}
use Rattle.hp_drawing.specs.Kept.{is_mark}
use Rattle.hp_drawing.specs.Told.{Told, or_none}
use Rattle.hp_drawing.specs.Scopes.{Scope, Layer, entry_in, value_by, shape_by, found, or_found, push_values, push_lasts, own_layer, enter, add_lasts, put_locals, put_names, names_of_eqns, value_in, last_in, shapes_in}
use Rattle.hp_drawing.specs.Sketch.{Sketch}
use Rattle.law_drawing.specs.Carrying.Calls.{lasts_slots}
use Rattle.law_drawing.specs.Carrying.Solving.{Has}
use Rattle.law_drawing.specs.Carrying.Drawing.{AreHeld, IsDrawn, IsReady, IsStored, AreShaped}
use Rattle.law_drawing.specs.Carrying.Typing.{AreNumbered}
use Rattle.law_drawing.proofs.CarryingLemmas.Steps.{stays, both}
use Rattle.law_drawing.proofs.CarryingLemmas.Values.{constant-number}
use Rattle.law_drawing.proofs.CarryingLemmas.Stored.{ready-more}
use Rattle.law_drawing.proofs.CarryingLemmas.Parts.{held-behind}
use Rattle.law_drawing.proofs.CarryingLemmas.Layers.{Knows, Each, all-map, eqns-names, eqns-occur, self-name, same-name, no-layer, layer-more, LocalsFit, locals-drawn, NameFits, names-drawn}
use Rattle.law_drawing.proofs.CarryingLemmas.Lasts.{LastFits, LastsFit, lasts-drawn}

-- what a scope gives where a layer is pushed
pub value-over : (slot : ℕ → ℕ) (ns : List ℕ) (l : Layer) (ls : List Layer) (x : List ℕ) (n k : ℕ) → ((e : Entry) → entry_in l x ≡ Some e → Has ns (or_none e.wire) n) → (entry_in l x ≡ None → n ≡ k) → Has ns (value_by (found ls x)).wire k → Has ns (value_by (found (l ∷ ls) x)).wire n
value-over slot ns l ls x n k f g h = by (entry_in l x) refl
  where
    by : (o : Option Entry) → entry_in l x ≡ o → Has ns (value_by (or_found o (found ls x))).wire n
    by None q = subst (λ m. Has ns (value_by (found ls x)).wire m) (sym (g q)) h
    by (Some e) q = f e q

pub shape-over : (l : Layer) (ls : List Layer) (x : List ℕ) (b : Bool) → ((e : Entry) → entry_in l x ≡ Some e → is_mark e.shape ≡ b) → (entry_in l x ≡ None → is_mark (value_by (found ls x)).shape ≡ b) → is_mark (value_by (found (l ∷ ls) x)).shape ≡ b
shape-over l ls x b f g = by (entry_in l x) refl
  where
    by : (o : Option Entry) → entry_in l x ≡ o → is_mark (value_by (or_found o (found ls x))).shape ≡ b
    by None q = g q
    by (Some e) q = f e q

pub shapes-over : (l : Layer) (ls : List Layer) (x : List ℕ) (b : Bool) → ((e : Entry) → entry_in l x ≡ Some e → is_mark e.shape ≡ b) → (entry_in l x ≡ None → is_mark (shape_by (found ls x)) ≡ b) → is_mark (shape_by (found (l ∷ ls) x)) ≡ b
shapes-over l ls x b f g = by (entry_in l x) refl
  where
    by : (o : Option Entry) → entry_in l x ≡ o → is_mark (shape_by (or_found o (found ls x))) ≡ b
    by None q = g q
    by (Some e) q = f e q

pub none-unknown : (l : Layer) (x : List ℕ) → entry_in l x ≡ None → Knows l x → ⊥
none-unknown l x q k = let c : false ≡ true = ap is_some (sym q) ∙ k in cc

pub true_or_not : {X : Type 0} (b : Bool) → (b ≡ true → X) → (b ≡ false → X) → X
true_or_not true f g = f refl
true_or_not false f g = g refl

-- a variable that is declared `last` once is last
last-once : (d : Decl) (ds : List Decl) (c : Const) → d.last ≡ Some c → is_last (d ∷ ds) d.name ≡ true
last-once d ds c e = ap (λ b. if b then (elim d.last [ None ↦ false | Some k ↦ true ]) else is_last ds d.name) (self-name d.name) ∙ ap (λ o. elim o [ None ↦ false | Some k ↦ true ]) e

module _ (slot : ℕ → ℕ) (raw next given : Instant) (supposes owes : Placed → Bool) (types : List TypeDecl) (told : Told) (among : List ℕ → Option Node) (names last : Names) (z : Scope) (place : Place) (here cut kept : Bool) where
  -- the first value of a variable, where those before have other names
  pub first-value : (front : List Decl) (d : Decl) (ds : List Decl) (c : Const) → d.last ≡ Some c → declares front d.name ≡ false → lasts (value types) (front ++ d ∷ ds) [] absent d.name ≡ value types c
  first-value [] d ds c e f = ap (λ b. if b then (elim d.last [ None ↦ Absent | Some k ↦ value types k ]) else lasts (value types) ds [] absent d.name) (self-name d.name) ∙ ap (λ o. elim o [ None ↦ Absent | Some k ↦ value types k ]) e
  first-value (o ∷ front) d ds c e f = by (bytes_eq o.name d.name) f (λ g. first-value front d ds c e g)
    where
      by : (b : Bool) → b || declares front d.name ≡ false → (declares front d.name ≡ false → lasts (value types) (front ++ d ∷ ds) [] absent d.name ≡ value types c) → (if b then (elim o.last [ None ↦ Absent | Some k ↦ value types k ]) else lasts (value types) (front ++ d ∷ ds) [] absent d.name) ≡ value types c
      by true f g = absurd cc
      by false f g = g f

  pub is-last-at : (front : List Decl) (d : Decl) (ds : List Decl) (c : Const) → d.last ≡ Some c → declares front d.name ≡ false → is_last (front ++ d ∷ ds) d.name ≡ true
  is-last-at [] d ds c e f = last-once d ds c e
  is-last-at (o ∷ front) d ds c e f = by (bytes_eq o.name d.name) f (λ g. is-last-at front d ds c e g)
    where
      by : (b : Bool) → b || declares front d.name ≡ false → (declares front d.name ≡ false → is_last (front ++ d ∷ ds) d.name ≡ true) → (if b then (elim o.last [ None ↦ false | Some k ↦ true ]) else is_last (front ++ d ∷ ds) d.name) ≡ true
      by true f g = absurd cc
      by false f g = g f

  pub apart-front : (front : List Decl) (d : Decl) (ds : List Decl) → AreApart (front ++ d ∷ ds) → declares front d.name ≡ false
  apart-front [] d ds h = refl
  apart-front (o ∷ front) d ds h = by (bytes_eq o.name d.name) refl (apart-front front d ds h.1)
    where
      later : (front : List Decl) (x : List ℕ) → declares (front ++ d ∷ ds) x ≡ false → bytes_eq d.name x ≡ false
      later [] x f = left-false (bytes_eq d.name x) (declares ds x) f
        where
          left-false : (a b : Bool) → a || b ≡ false → a ≡ false
          left-false true b h = absurd cc
          left-false false b h = refl
      later (p ∷ front) x f = later front x (right-false (bytes_eq p.name x) (declares (front ++ d ∷ ds) x) f)
        where
          right-false : (a b : Bool) → a || b ≡ false → b ≡ false
          right-false true b h = absurd cc
          right-false false b h = h

      by : (b : Bool) → bytes_eq o.name d.name ≡ b → declares front d.name ≡ false → b || declares front d.name ≡ false
      by true q f = absurd (let e : bytes_eq d.name d.name ≡ false = subst (λ n. bytes_eq d.name n ≡ false) (same-name o.name d.name q) (later front o.name h.0) in let c : true ≡ false = sym (self-name d.name) ∙ e in cc)
      by false q f = f

  typed-other : (ds : List Decl) (out : types_shown.Scope) (x : List ℕ) → declares ds x ≡ false → typed_in ds out x ≡ out x
  typed-other [] out x f = refl
  typed-other (d ∷ ds) out x f = by (bytes_eq d.name x) f (λ g. typed-other ds out x g)
    where
      by : (b : Bool) → b || declares ds x ≡ false → (declares ds x ≡ false → typed_in ds out x ≡ out x) → (if b then d.ty else typed_in ds out x) ≡ out x
      by true f g = absurd cc
      by false f g = g f

  typed-here : (s : TypeScope) (es : Eqns) (ds : List Decl) (out : types_shown.Scope) (x : List ℕ) (t : Ty) → DeclsSound types among s es ds → declares ds x ≡ true → lookup s.variables x ≡ Some t → typed_in ds out x ≡ t
  typed-here s es [] out x t h f l = absurd cc
  typed-here s es (d ∷ ds) out x t h f l = by (bytes_eq d.name x) refl f (λ g. typed-here s es ds out x t h.1 g l)
    where
      by : (b : Bool) → bytes_eq d.name x ≡ b → b || declares ds x ≡ true → (declares ds x ≡ true → typed_in ds out x ≡ t) → (if b then d.ty else typed_in ds out x) ≡ t
      by true q f g = same_Some d.ty t (sym h.0.0 ∙ ap (lookup s.variables) (same-name d.name x q) ∙ l)
      by false q f g = g f

  module _ (s : TypeScope) (has_last : Lasts) (scope : types_shown.Scope) (ds : List Decl) (es : Eqns) (now : Instant) (w : TreePlace → TreePlace) (begin memory stay after : Instant) (sto : IsStored here cut kept begin memory stay after (λ p. raw (w p)) (λ p. next (w p))) (same : here ≡ true → kept ≡ cut) where
    abbrev inner : TypeScope
    inner = with_variables s ds

    -- names, and last values, in the block
    abbrev pub names_in : Names
    names_in x = inside_names es names now x

    abbrev pub last_in_block : Names
    last_in_block x = lasts_in ds memory last x

    defined-value : (x : List ℕ) → some_defines es x ≡ true → names_in x ≡ now (Named x ∷ [])
    defined-value x h = ap (λ b. if b then now (Named x ∷ []) else names x) h

    other-value : (x : List ℕ) → some_defines es x ≡ false → names_in x ≡ names x
    other-value x h = ap (λ b. if b then now (Named x ∷ []) else names x) h

    value-typed : (typed : List ℕ → Instant → Type 0) → NamesTyped types typed inner es now → (x : List ℕ) (t : Ty) → some_defines es x ≡ true → lookup inner.variables x ≡ Some t → IsWire types t (names_in x)
    value-typed typed nt x t h l = subst (λ v. IsWire types t v) (sym (defined-value x h)) (as_wire types (lookup inner.variables x) t (now (Named x ∷ [])) l (nt x h))

    locals-fit : (typed : List ℕ → Instant → Type 0) → NamesTyped types typed inner es now → (os : List Decl) → DeclsSound types among inner es os → LocalsFit types told inner names_in os
    locals-fit typed nt [] h = tt
    locals-fit typed nt (d ∷ os) h = ((h.0.0, value-typed typed nt d.name d.ty h.0.1.0 h.0.0), locals-fit typed nt os h.1)

    names-fit : (typed : List ℕ → Instant → Type 0) (l : Layer) → NamesTyped types typed inner es now → AreShaped s has_last scope z → OthersKnown types among (block ds es) s → ((x : List ℕ) → declares ds x ≡ true → Knows l x) → (xs : List (List ℕ)) → Each (λ x. some_defines es x ≡ true) xs → Each (NameFits types told inner names_in slot next supposes owes z l) xs
    names-fit typed l nt S ok k xs h = all-map (λ x. some_defines es x ≡ true) (NameFits types told inner names_in slot next supposes owes z l) one xs h
      where
        one : (x : List ℕ) → some_defines es x ≡ true → NameFits types told inner names_in slot next supposes owes z l x
        one x e = true_or_not (declares ds x) (λ d. inl (k x d)) (λ d. let o = ok x e d in let q = still_known x ds s o.0 o.1 in inr (o.0, q, value-typed typed nt x o.0 e q, S.shapes x o.0 o.1))

    abbrev Fits : List Decl → Type 0
    Fits os = LastsFit slot raw next given supposes owes types told names last z place here cut kept w begin memory stay after sto same inner names_in ds os

    last-fit : (typed : List ℕ → Instant → Type 0) (N : AreNumbered types told inner) → LastsKept types inner ds memory
        → ((x : List ℕ) → begin (Named x ∷ []) ≡ (if is_last ds x then lasts (value types) ds [] absent x else Absent)) → ((x : List ℕ) → after (Named x ∷ []) ≡ (if is_last ds x then now (Named x ∷ []) else Absent))
        → (front : List Decl) (d : Decl) (os : List Decl) (o : Option Const) → d.last ≡ o → front ++ d ∷ os ≡ ds → declares front d.name ≡ false → lookup inner.variables d.name ≡ Some d.ty → some_defines es d.name ≡ true
        → LastFits slot raw next given supposes owes types told names last z place here cut kept w begin memory stay after sto same inner names_in ds d o
    last-fit typed N lk be ae front d os None q e f l sd = tt
    last-fit typed N lk be ae front d os (Some c) q e f l sd =
        let il : is_last ds d.name ≡ true = subst (λ all. is_last all d.name ≡ true) e (is-last-at front d os c q f) in
        let fv : lasts (value types) ds [] absent d.name ≡ value types c = subst (λ all. lasts (value types) all [] absent d.name ≡ value types c) e (first-value front d os c q f) in (
          ap number_in (be d.name ∙ ap (λ b. if b then lasts (value types) ds [] absent d.name else Absent) il ∙ fv) ∙ constant-number types told inner N c,
          ap number_in (ae d.name ∙ ap (λ b. if b then now (Named d.name ∷ []) else Absent) il ∙ sym (defined-value d.name sd)),
          l,
          lk d.name d.ty il l,
          il,
        )

    lasts-fit : (typed : List ℕ → Instant → Type 0) (N : AreNumbered types told inner) → LastsKept types inner ds memory
        → ((x : List ℕ) → begin (Named x ∷ []) ≡ (if is_last ds x then lasts (value types) ds [] absent x else Absent)) → ((x : List ℕ) → after (Named x ∷ []) ≡ (if is_last ds x then now (Named x ∷ []) else Absent))
        → AreApart ds → (front os : List Decl) → front ++ os ≡ ds → DeclsSound types among inner es os → Fits os
    lasts-fit typed N lk be ae ap' front [] e h = tt
    lasts-fit typed N lk be ae ap' front (d ∷ os) e h = (
      last-fit typed N lk be ae front d os d.last refl e (apart-front front d os (subst AreApart (sym e) ap')) h.0.0 h.0.1.0,
      lasts-fit typed N lk be ae ap' (front ++ d ∷ []) os (append_assoc front (d ∷ []) os ∙ e) h.1,
    )

    abbrev Entered : Scope × Sketch → List slots.Slot → Sketch → List ℕ → Type 0
    Entered r ss d ns =
        (ns' : List ℕ) × IsDrawn slot next supposes owes d ns ss [] r.1 ns' × IsReady slot types names_in last_in_block r.0 place [] here cut kept r.1 ns' × AreShaped inner (known_lasts ds has_last) (typed_in ds scope) r.0

    pub enter-drawn : (typed : List ℕ → Instant → Type 0) (d : Sketch) (ns : List ℕ) (N : AreNumbered types told inner) → IsReady slot types names last z place [] here cut kept d ns → AreShaped s has_last scope z
        → DeclsSound types among inner es ds → OthersKnown types among (block ds es) s → NamesTyped types typed inner es now → AreApart ds → LastsKept types inner ds memory → LastsAre types s has_last last
        → ((x : List ℕ) → begin (Named x ∷ []) ≡ (if is_last ds x then lasts (value types) ds [] absent x else Absent)) → ((x : List ℕ) → after (Named x ∷ []) ≡ (if is_last ds x then now (Named x ∷ []) else Absent))
        → AreHeld slot raw given (lasts_slots types ds w) (length d.slots)
        → Entered (enter told z place ds es d) (lasts_slots types ds w) d ns
    unfolding enter own_layer push_values push_lasts value_in last_in shapes_in
    enter-drawn typed d ns N r S ok known nt apart lk la be ae hd =
        let ss = lasts_slots types ds w in
        let a = locals-drawn types told inner names_in slot next supposes owes ds 0 [] d ns r.solved (no-layer types told inner names_in ns) (locals-fit typed nt ds ok) in
        let l1 = put_locals told 0 ds [] d in
        let b = names-drawn types told inner names_in slot next supposes owes z (names_of_eqns es) l1.0 l1.1 a.0 a.1.solved a.2 (names-fit typed l1.0 nt S known a.4 (names_of_eqns es) (eqns-names es)) in
        let own = put_names z (names_of_eqns es) l1.0 l1.1 in
        let d2 = both slot next supposes owes d ns [] [] l1.1 a.0 [] [] own.1 b.0 a.1 b.1 in
        let r2 = ready-more slot next supposes owes types names last z place [] here cut kept d ns [] [] own.1 b.0 d2 r in
        let declared : (x : List ℕ) → declares ds x ≡ true → Knows own.0 x = λ x h. b.3 x (a.4 x h) in
        let c = lasts-drawn slot raw next given supposes owes types told names last z place here cut kept w begin memory stay after sto same inner names_in ds ds own.0 [] own.1 b.0 r2 b.2 (λ x h. declared x (last_declared ds x h)) (no-layer types told inner (λ x. memory (Named x ∷ [])) b.0)
        (lasts-fit typed N lk be ae apart [] ds refl ok) (held-behind slot next supposes owes raw given d ns [] [] own.1 b.0 ss d2 hd) in
        let last_layer = add_lasts told place ds own.0 [] own.1 in
        let more : (wr k : ℕ) → Has b.0 wr k → Has c.0 wr k = stays slot next supposes owes own.1 b.0 ss [] last_layer.1 c.0 c.1 in
        let h = layer-more types told inner names_in b.0 c.0 own.0 more b.2 in
        let r3 = ready-more slot next supposes owes types names last z place [] here cut kept own.1 b.0 ss [] last_layer.1 c.0 c.1 r2 in
        let undefined : (x : List ℕ) → entry_in own.0 x ≡ None → some_defines es x ≡ false = λ x q. true_or_not (some_defines es x) (λ e. absurd (none-unknown own.0 x q (b.4 x (eqns-occur es x e)))) (λ e. e) in
        let undeclared : (x : List ℕ) → entry_in own.0 x ≡ None → declares ds x ≡ false = λ x q. true_or_not (declares ds x) (λ e. absurd (none-unknown own.0 x q (declared x e))) (λ e. e) in
        let not_last : (x : List ℕ) → entry_in last_layer.0 x ≡ None → is_last ds x ≡ false = λ x q. true_or_not (is_last ds x) (λ e. absurd (none-unknown last_layer.0 x q (c.5 x e))) (λ e. e) in
        let is_it : (x : List ℕ) (e : Entry) → entry_in last_layer.0 x ≡ Some e → is_last ds x ≡ true = λ x e q. elim (c.4 x (ap is_some q)) [ inl k ↦ absurd (let o : false ≡ true = k in cc) | inr k ↦ k ] in (
          c.0,
          both slot next supposes owes d ns [] [] own.1 b.0 ss [] last_layer.1 c.0 d2 c.1,
          record {
            solved = c.1.solved;
            place_is = r3.place_is;
            clock_is = r3.clock_is;
            values = λ x. value-over slot c.0 own.0 z.values x (number_in (names_in x)) (number_in (names x)) (λ e q. h.carries x e q) (λ q. ap number_in (other-value x (undefined x q))) (r3.values x);
            lasts = λ x. value-over slot c.0 last_layer.0 z.lasts x (number_in (last_in_block x)) (number_in (last x)) (λ e q. subst (λ k. Has c.0 (or_none e.wire) k) (ap number_in (sym (ap (λ b. if b then memory (Named x ∷ []) else last x) (is_it x e q)))) (c.2.carries x e q))
                (λ q. ap number_in (ap (λ b. if b then memory (Named x ∷ []) else last x) (not_last x q))) (r3.lasts x);
          },
          record {
            values = λ x t l. shape-over own.0 z.values x (is_int t) (λ e q. h.shaped x e t q l) (λ q. S.values x t (sym (not_declared x ds s (undeclared x q)) ∙ l));
            shapes = λ x t l. shapes-over own.0 z.values x (is_int t) (λ e q. h.shaped x e t q l) (λ q. S.shapes x t (sym (not_declared x ds s (undeclared x q)) ∙ l));
            lasts = λ x t hl l. shape-over last_layer.0 z.lasts x (is_int t) (λ e q. c.2.shaped x e t q l)
                (λ q. let o = last_further ds has_last x hl (not_last x q) in let k = la x o in S.lasts x k.0 o k.1.0 ∙ ap is_int (same_Some k.0 t (sym (still_known x ds s k.0 k.1.0) ∙ l)));
            types = λ x t l. true_or_not (declares ds x) (λ e. ap is_int (typed-here inner es ds scope x t ok e l)) (λ e. ap is_int (typed-other ds scope x e) ∙ S.types x t (sym (not_declared x ds s e) ∙ l));
          },
        )
