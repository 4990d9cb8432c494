-- What is seen in a block, and in the blocks of a control equation.
use Rattle.std.proofs.Common.{◌≡◌, ℕ, zero, suc, Bool, true, false, ◌||◌, if◌then◌else◌, List, [], ◌∷◌, Option, None, Some, refl, sym, ap, ◌∙◌}
use Rattle.std.specs.Prelude.{slice_get, IsTrue, IsFalse}
use Rattle.hp_base.specs.declared.value.Value.TheVariants.{B}
use Rattle.hp_tree.specs.Blocks.{Decl, Block, block, Eqns, more_eqns, Eqn}
use Rattle.hp_tree.specs.ExpressionTypes.{scope_of}
use Rattle.hp_tree.specs.Instant.{Fresh, Head, Tail, Instant, part}
use Rattle.hp_tree.specs.Meaning.{Names, defines, some_defines, within}
use Rattle.hp_tree.specs.Programs.{TypeDecl}
use Rattle.hp_base.specs.Known.Known.{with_entry, lookup}
use Rattle.hp_typing.specs.Scopes.{with_variables, inside}
use Rattle.law_judged.specs.Typed.Scopes.{Scope as TypeScope}
use Rattle.hp_meaning.specs.Causal.Clocked.{standing_of}
use Rattle.law_values.specs.Valued.Judged.{lasts_of as known_of}
use Rattle.law_games.specs.Wires.Wired.{Held, Callees, held_at}
use Rattle.law_games.specs.Wires.WiredBlocks.{read_of, lasts_of, wired_gives, wired_defined, wired_block}
use Rattle.hp_drawing.specs.Scopes.{Scope, Layer, push_values}
use Rattle.hp_drawing.specs.Told.{Told}
use Rattle.hp_drawing.specs.DrawnBlocks.{decl_path, path_by}
use Rattle.law_drawing.specs.Carrying.Typing.{AreNumbered, PathFits}
use Rattle.law_drawing.specs.Carrying.Drawable.{PathsFit}
use Rattle.law_drawing.specs.Carrying.Laws.{Sight}
use Rattle.law_drawing.proofs.CarryingLemmas.Enter.{true_or_not}

-- in a block, with the wires of its names
abbrev pub inside_sight : Sight → Block → Held → Instant → Scope → Sight
inside_sight V b m now z =
    record {
      scope = inside V.scope b;
      standing = standing_of b V.standing;
      has_last = known_of b V.has_last;
      names = λ x. read_of b V.names now x;
      last = λ x. lasts_of b m.memory V.last x;
      types = scope_of b V.types;
      drawn_scope = z;
    }

-- in a control equation its names are hidden
abbrev pub hidden_sight : Sight → Eqn → Layer → Sight
hidden_sight V q l =
    record {
      scope = V.scope;
      standing = V.standing;
      has_last = V.has_last;
      names = λ x. within q V.names V.last x;
      last = V.last;
      types = V.types;
      drawn_scope = push_values l V.drawn_scope;
    }

-- the same with other wires of names
abbrev pub sight_with : Sight → Scope → Sight
sight_with V z =
    record {
      scope = V.scope;
      standing = V.standing;
      has_last = V.has_last;
      names = V.names;
      last = V.last;
      types = V.types;
      drawn_scope = z;
    }

constructors-same : (ds : List Decl) (s : TypeScope) → (with_variables s ds).constructors ≡ s.constructors
constructors-same [] s = refl
constructors-same (d ∷ ds) s = constructors-same ds (record s { variables = with_entry s.variables d.name d.ty })

pub numbered-inside : (types : List TypeDecl) (told : Told) (s : TypeScope) (ds : List Decl) → AreNumbered types told s → AreNumbered types told (with_variables s ds)
numbered-inside types told s ds N = record { numbers = N.numbers; of_type = λ c x e. N.of_type c x (ap (λ k. lookup-in k c) (sym (constructors-same ds s)) ∙ e); one_type = N.one_type }
  where
    lookup-in : List (List ℕ × List ℕ) → List ℕ → Option (List ℕ)
    lookup-in k c = lookup k c

pub numbered-in-block : (types : List TypeDecl) (told : Told) (s : TypeScope) (b : Block) → AreNumbered types told s → AreNumbered types told (inside s b)
numbered-in-block types told s (block ds es) N = numbered-inside types told s ds N

-- the clocks of names fit
paths-fit : (s : TypeScope) (ds : List Decl) (k : ℕ) → PathsFit s ds → PathFits s (decl_path (slice_get ds k))
paths-fit s [] k h = tt
paths-fit s (d ∷ ds) zero h = h.0
paths-fit s (d ∷ ds) (suc k) h = paths-fit s ds k h.1

pub path-fits : (s : TypeScope) (ds : List Decl) (o : Option ℕ) → PathsFit s ds → PathFits s (path_by ds o)
path-fits s ds None h = tt
path-fits s ds (Some k) h = paths-fit s ds k h

-- a block tells whether it begins anew
pub tells-fresh : (types : List TypeDecl) (C : Callees) (b : Block) (fresh : Bool) (names last : Names) (m : Held) (now : Instant) → wired_block types C b fresh names last m now (Fresh ∷ []) ≡ B fresh
tells-fresh types C (block ds es) fresh names last m now = refl

-- ---- what equations give

-- the first equation that defines a name gives its value
pub first-gives : (types : List TypeDecl) (C : Callees) (e : Eqn) (es : Eqns) (names last : Names) (m : Held) (now : Instant) → ((x : List ℕ) → some_defines (more_eqns e es) x ≡ true → names x ≡ wired_defined types C (more_eqns e es) names last m now x)
    → (x : List ℕ) → defines e x ≡ true → names x ≡ wired_gives types C e names last (held_at Head m) (part Head now) x
first-gives types C e es names last m now h x d =
    h x (ap (λ b. b || some_defines es x) d) ∙ ap (λ b. if b then wired_gives types C e names last (held_at Head m) (part Head now) x else wired_defined types C es names last (held_at Tail m) (part Tail now) x) d

-- and where no other one does, those behind it give the others
pub others-give : (types : List TypeDecl) (C : Callees) (e : Eqn) (es : Eqns) (names last : Names) (m : Held) (now : Instant) → ((x : List ℕ) → IsTrue (defines e x) → IsFalse (some_defines es x))
    → ((x : List ℕ) → some_defines (more_eqns e es) x ≡ true → names x ≡ wired_defined types C (more_eqns e es) names last m now x)
    → (x : List ℕ) → some_defines es x ≡ true → names x ≡ wired_defined types C es names last (held_at Tail m) (part Tail now) x
others-give types C e es names last m now once h x d =
    h x (right (defines e x) (some_defines es x) d)
    ∙ ap (λ b. if b then wired_gives types C e names last (held_at Head m) (part Head now) x else wired_defined types C es names last (held_at Tail m) (part Tail now) x)
    (true_or_not (defines e x) (λ i. absurd (let c : true ≡ false = sym d ∙ once x i in cc)) (λ i. i))
  where
    right : (a b : Bool) → b ≡ true → a || b ≡ true
    right true b h = refl
    right false b h = h
