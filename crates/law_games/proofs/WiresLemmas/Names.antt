-- How names and last values are read on wires and in the meaning.
use Rattle.std.proofs.Common.{◌≡◌, List, [], ◌∷◌, refl, sym, ap, ap₂, ◌∙◌}
use Rattle.std.proofs.lemmas.Slice.Eq.{bytes_eq-Decides}
use Rattle.std.specs.Prelude.{⊤, Bool, true, false, if◌then◌else◌, IsTrue, IsFalse, ◌&&◌, ◌||◌, not, Option, None, Some, ℕ}
use Rattle.std.specs.Str.{bytes_eq}
use Rattle.hp_base.specs.declared.value.Value.{Value}
use Rattle.hp_base.specs.declared.value.Value.TheVariants.{Absent}
use Rattle.hp_base.specs.declared.span.Span.{Span}
use Rattle.hp_base.specs.declared.ty.Const.{Const}
use Rattle.hp_tree.specs.Blocks.{Decl, Block, block, Eqns, Eqn, Arms, no_arm, more_arms}
use Rattle.hp_tree.specs.Programs.{TypeDecl}
use Rattle.hp_tree.specs.Operators.{Reading, is_cons}
use Rattle.hp_tree.specs.Instant.{Named, Head, Tail, Instant, Past, part, nothing, Clock, holds}
use Rattle.hp_tree.specs.Meaning.{Names, Nodes, defines, some_defines, block_defines, declares, is_among, inside, within, previous, lasts, clock_in, written, output_for, from_block, from_arm, absent}
use Rattle.hp_meaning.specs.Causal.Clocked.{Standing, base_alone, standing_in, DeclarationsRight, LeftsOn}
use Rattle.hp_meaning.specs.Contract.Memory.{is_last, remembers_block}
use Rattle.law_games.specs.Wires.Wired.{Held, held_at, blank, lasts_in, Callees, value}
use Rattle.law_games.specs.Wires.WiredBlocks.{arm_value, has_arm, anew_memory, shown_block, shown_arms}
use Rattle.law_games.proofs.WiresLemmas.Exprs.{if_true, where_true, Seen}

-- what a block reads from further out: names on the base clock
abbrev pub SeenBase : Standing → Names → Names → Type 0
SeenBase st nM nW = (x : List ℕ) → st x ≡ Some [] → nM x ≡ nW x

pub base_of : (types : List TypeDecl) (st : Standing) (nM nW : Names) → Seen types st nM nW → SeenBase st nM nW
base_of types st nM nW s x e = s x [] e

within_case : (d : Bool) (v u w : Value) → u ≡ w → (if d then v else u) ≡ (if d then v else w)
within_case true v u w e = refl
within_case false v u w e = e

pub seen_within : (e : Eqn) (st : Standing) (nM nW last : Names) → SeenBase st nM nW → SeenBase st (within e nM last) (within e nW last)
seen_within e st nM nW last s x k = within_case (defines e x) (last x) (nM x) (nW x) (s x k)

some_is : {A : Type 0} (a b : A) → Some a ≡ Some b → a ≡ b
some_is a b e = ap (λ o. elim o [ None ↦ a | Some c ↦ c ]) e

base_is : (o : Option Clock) (ck : Clock) → base_alone o ≡ Some ck → (o ≡ Some []) × (ck ≡ [])
base_is None ck e = cc
base_is (Some []) ck e = (refl, sym (some_is [] ck e))
base_is (Some (s ∷ c)) ck e = cc

seen_case : (types : List TypeDecl) (nW' : Names) (d : Bool) (c ck : Clock) (o : Option Clock) (vM vW w : Value) → (o ≡ Some [] → vM ≡ vW) → (if d then Some c else base_alone o) ≡ Some ck → (if d then (if d then where_true (holds types c nW') w else Absent) else vM) ≡ where_true (holds types ck nW') (if d then w else vW)
seen_case types nW' true c ck o vM vW w f e = ap (λ k. where_true (holds types k nW') w) (some_is c ck e)
seen_case types nW' false c ck o vM vW w f e =
    let b = base_is o ck e in
    f b.0 ∙ ap (λ k. where_true (holds types k nW') vW) (sym b.1)

module _ (types : List TypeDecl) (C : Callees) where
  pub seen_inside : (ds : List Decl) (es : Eqns) (st : Standing) (nM nW last : Names) (m : Held) (W : Instant) → SeenBase st nM nW → Seen types (standing_in ds es st) (inside es nM (shown_block types C (block ds es) nW last m W)) (inside es nW W)
  seen_inside ds es st nM nW last m W s x ck e =
      seen_case types (inside es nW W) (some_defines es x) (clock_in ds x) ck (st x) (nM x) (nW x) (W (Named x ∷ [])) (s x) e

  -- ---- last values

  -- the values of `last` read in memory are those of the past
  last_step : (t : Bool) (o : Option Const) (x : List ℕ) (G : Past) (out out' ls ls' : Value) (k : Bool) → ls ≡ (if k then ls' else out) → (if t then (elim o [ None ↦ out | Some c ↦ previous G x (value types c) ]) else ls) ≡ (if (if t then (elim o [ None ↦ false | Some c ↦ true ]) else k) then (if t then (elim o [ None ↦ out' | Some c ↦ previous G x (value types c) ]) else ls') else out)
  last_step true None x G out out' ls ls' k e = refl
  last_step true (Some c) x G out out' ls ls' k e = refl
  last_step false o x G out out' ls ls' k e = e

  pub lasts_split : (ds : List Decl) (G : Past) (last other : Names) (x : List ℕ) → lasts (value types) ds G last x ≡ (if is_last ds x then lasts (value types) ds G other x else last x)
  lasts_split [] G last other x = refl
  lasts_split (d ∷ ds) G last other x =
      last_step (bytes_eq d.name x) d.last x G (last x) (other x) (lasts (value types) ds G last x) (lasts (value types) ds G other x) (is_last ds x) (lasts_split ds G last other x)

  pub twice_if : (d : Bool) (u v w : Value) → (if d then u else v) ≡ (if d then (if d then u else w) else v)
  twice_if true u v w = refl
  twice_if false u v w = refl

  pub lasts_same : (ds : List Decl) (es : Eqns) (fill : Instant) (G : Past) (last : Names) → lasts (value types) ds G last ≡ lasts_in ds (remembers_block types C.remembers (block ds es) fill G) last
  lasts_same ds es fill G last = λ z x. (lasts_split ds G last absent x ∙ twice_if (is_last ds x) (lasts (value types) ds G absent x) (last x) Absent) z

  newest_step : (t : Bool) (o : Option Const) (x : List ℕ) (S : Instant) (G : Past) (out ls : Value) (k : Bool) → (IsTrue k → ls ≡ S (Named x ∷ [])) → IsTrue (if t then (elim o [ None ↦ false | Some c ↦ true ]) else k) → (if t then (elim o [ None ↦ out | Some c ↦ previous (S ∷ G) x (value types c) ]) else ls) ≡ S (Named x ∷ [])
  newest_step true None x S G out ls k f e = cc
  newest_step true (Some c) x S G out ls k f e = refl
  newest_step false o x S G out ls k f e = f e

  -- the newest instant holds the last value
  pub lasts_newest : (ds : List Decl) (S : Instant) (G : Past) (out : Names) (x : List ℕ) → IsTrue (is_last ds x) → lasts (value types) ds (S ∷ G) out x ≡ S (Named x ∷ [])
  lasts_newest [] S G out x e = cc
  lasts_newest (d ∷ ds) S G out x e =
      newest_step (bytes_eq d.name x) d.last x S G (out x) (lasts (value types) ds (S ∷ G) out x) (is_last ds x) (lasts_newest ds S G out x) e

  base_step : (t : Bool) (o : Option Const) (w c : Clock) (k : Bool) → (elim o as (λ q. Type 0) [ None ↦ ⊤ | Some c ↦ w ≡ [] ]) → (IsTrue k → c ≡ []) → IsTrue (if t then (elim o [ None ↦ false | Some c ↦ true ]) else k) → (if t then w else c) ≡ []
  base_step true None w c k r f e = cc
  base_step true (Some v) w c k r f e = r
  base_step false o w c k r f e = f e

  pub last_on_base : (st : Standing) (ds : List Decl) → DeclarationsRight st ds → (x : List ℕ) → IsTrue (is_last ds x) → clock_in ds x ≡ []
  last_on_base st [] r x e = cc
  last_on_base st (d ∷ ds) r x e = base_step (bytes_eq d.name x) d.last (written d.clock) (clock_in ds x) (is_last ds x) r.1 (last_on_base st ds r.2 x) e

  kept_case : (l d : Bool) (c : Clock) (nW' : Names) (w u s : Value) → (IsTrue l → u ≡ s) → s ≡ (if d then where_true (holds types c nW') w else Absent) → (IsTrue l → c ≡ []) → (IsFalse d → w ≡ Absent) → (if l then u else Absent) ≡ (if l then w else Absent)
  kept_case true true c nW' w u s f e g h = f refl ∙ e ∙ ap (λ k. where_true (holds types k nW') w) (g refl)
  kept_case true false c nW' w u s f e g h = f refl ∙ e ∙ sym (h refl)
  kept_case false d c nW' w u s f e g h = refl

  -- what is remembered of names
  pub names_kept : (st : Standing) (ds : List Decl) (es : Eqns) (nW last : Names) (m : Held) (W : Instant) (G : Past) (x : List ℕ) → DeclarationsRight st ds → (IsFalse (some_defines es x) → W (Named x ∷ []) ≡ Absent) → (if is_last ds x then lasts (value types) ds (shown_block types C (block ds es) nW last m W ∷ G) absent x else Absent) ≡ (if is_last ds x then W (Named x ∷ []) else Absent)
  names_kept st ds es nW last m W G x r f =
      kept_case (is_last ds x) (some_defines es x) (clock_in ds x) (inside es nW W) (W (Named x ∷ [])) _ _
      (lasts_newest ds (shown_block types C (block ds es) nW last m W) G absent x) refl (last_on_base st ds r x) f

  -- ---- what control equations give

  undeclared : (ds : List Decl) (x : List ℕ) → IsFalse (declares ds x) → clock_in ds x ≡ []
  undeclared [] x e = refl
  undeclared (d ∷ ds) x e = by_case (bytes_eq d.name x) (undeclared ds x) e
    where
      by_case : (t : Bool) → (IsFalse (declares ds x) → clock_in ds x ≡ []) → IsFalse (t || declares ds x) → (if t then written d.clock else clock_in ds x) ≡ []
      by_case true f e = cc
      by_case false f e = f e

  both : (a b : Bool) → IsTrue (a && not b) → IsTrue a × IsFalse b
  both true true e = cc
  both true false e = (refl, refl)
  both false b e = cc

  -- a name that a block defines for the blocks around it
  pub shown_named : (b : Block) (nW last : Names) (m : Held) (W : Instant) (x : List ℕ) → IsTrue (block_defines b x) → shown_block types C b nW last m W (Named x ∷ []) ≡ W (Named x ∷ [])
  shown_named (block ds es) nW last m W x e =
      let k = both (some_defines es x) (declares ds x) e in
      if_true (some_defines es x) _ _ k.0 ∙ ap (λ c. where_true (holds types c (inside es nW W)) (W (Named x ∷ []))) (undeclared ds x k.1)

  pub from_same : (b : Block) (nW last last' : Names) (m : Held) (W : Instant) (x : List ℕ) → from_block b last (shown_block types C b nW last' m W) x ≡ from_block b last W x
  from_same b nW last last' m W x = by_case (block_defines b x) (shown_named b nW last' m W x)
    where
      by_case : (d : Bool) → (IsTrue d → shown_block types C b nW last' m W (Named x ∷ []) ≡ W (Named x ∷ [])) → (if d then shown_block types C b nW last' m W (Named x ∷ []) else last x) ≡ (if d then W (Named x ∷ []) else last x)
      by_case true f = f refl
      by_case false f = refl

  -- ---- what a right side gives

  outputs_none : (ys : List (List ℕ × Span)) (os : List (List ℕ)) (x : List ℕ) → output_for ys os nothing x ≡ Absent
  outputs_none [] os x = refl
  outputs_none (y ∷ ys) [] x = refl
  outputs_none (y ∷ ys) (o ∷ os) x = by_case (bytes_eq y.0 x) (outputs_none ys os x)
    where
      by_case : (d : Bool) {v : Value} → v ≡ Absent → (if d then Absent else v) ≡ Absent
      by_case true e = refl
      by_case false e = e

  outputs_same : (ys : List (List ℕ × Span)) (os : List (List ℕ)) (i j : Instant) (x : List ℕ) → ((o : List ℕ) → i (Named o ∷ []) ≡ j (Named o ∷ [])) → output_for ys os i x ≡ output_for ys os j x
  outputs_same [] os i j x f = refl
  outputs_same (y ∷ ys) [] i j x f = refl
  outputs_same (y ∷ ys) (o ∷ os) i j x f = ap₂ (λ u v. if bytes_eq y.0 x then u else v) (f o) (outputs_same ys os i j x f)

  pub outputs_where : (d : Bool) (ys : List (List ℕ × Span)) (os : List (List ℕ)) (S W : Instant) (x : List ℕ) → ((o : List ℕ) → S (Named o ∷ []) ≡ W (Named o ∷ [])) → where_true d (output_for ys os W x) ≡ output_for ys os (if d then S else nothing) x
  outputs_where true ys os S W x f = outputs_same ys os W S x (λ o. sym (f o))
  outputs_where false ys os S W x f = sym (outputs_none ys os x)

  -- a name on the left side is on the equation's clock
  pub left_on : (ds : List Decl) (ys : List (List ℕ × Span)) (c : Clock) (x : List ℕ) → LeftsOn ds ys c → IsTrue (is_among ys x) → clock_in ds x ≡ c
  left_on ds [] c x l e = cc
  left_on ds (y ∷ ys) c x l e = by_case (bytes_eq y.0 x) (λ t. ap (clock_in ds) (sym ((bytes_eq-Decides y.0 x).0 t)) ∙ l.0) (left_on ds ys c x l.1) e
    where
      by_case : (d : Bool) → (IsTrue d → clock_in ds x ≡ c) → (IsTrue (is_among ys x) → clock_in ds x ≡ c) → IsTrue (d || is_among ys x) → clock_in ds x ≡ c
      by_case true f g e = f refl
      by_case false f g e = g e

  -- the arm that is there
  pub arm_same : (N : Nodes) (R' : Reading) (d : Value) (arms : Arms) (v : Value) (nW last last' : Names) (m : Held) (W : Instant) (x : List ℕ) → IsTrue (has_arm types C arms v) → arm_value types C d arms v last W x ≡ from_arm types R' N arms v last (shown_arms types C arms v nW last' m W) x
  arm_same N R' d no_arm v nW last last' m W x e = cc
  arm_same N R' d (more_arms c b sp arms) v nW last last' m W x e =
      by_case (is_cons types v c) (from_same b nW last last' (held_at Head m) (part Head W) x)
      (arm_same N R' (blank (from_block b last (part Head W) x)) arms v nW last last' (held_at Tail m) (part Tail W) x) e
    where
      by_case : (t : Bool) → from_block b last (shown_block types C b nW last' (held_at Head m) (part Head W)) x ≡ from_block b last (part Head W) x → (IsTrue (has_arm types C arms v) → arm_value types C (blank (from_block b last (part Head W) x)) arms v last (part Tail W) x ≡ from_arm types R' N arms v last (shown_arms types C arms v nW last' (held_at Tail m) (part Tail W)) x) → IsTrue (t || has_arm types C arms v) → (if t then from_block b last (part Head W) x else arm_value types C (blank (from_block b last (part Head W) x)) arms v last (part Tail W) x) ≡ (if t then from_block b last (if t then shown_block types C b nW last' (held_at Head m) (part Head W) else nothing) x else from_arm types R' N arms v last (shown_arms types C arms v nW last' (held_at Tail m) (part Tail W)) x)
      by_case true f g e = sym f
      by_case false f g e = g e

  -- a block that begins anew_memory, or not
  pub anew_same : (b : Block) (fresh : Bool) (fill : Instant) (P : Past) → anew_memory types C b fresh fill (remembers_block types C.remembers b fill P) ≡ remembers_block types C.remembers b fill (if fresh then [] else P)
  anew_same b true fill P = refl
  anew_same b false fill P = refl
