-- The kinds of what a machine keeps are those of its values, and a checkpoint of it is taken.
use Rattle.std.proofs.Common.{◌≡◌, ℕ, suc, ◌+◌, Bool, true, false, if◌then◌else◌, List, [], ◌∷◌, ◌++◌, length, length-append, map, None, Some, refl, sym, ap, subst, ◌∙◌, arith}
use Rattle.std.specs.Prelude.{IsSome}
use Rattle.std.specs.List.{slice_get}
use Rattle.std.specs.Option.{unwrap_or}
use Rattle.std.specs.Str.{bytes_eq}
use Rattle.hp_base.specs.Kinds.{KindData, Bools, Ints, Constructors, IsOfKind, AreOfKinds}
use Rattle.hp_base.specs.declared.ty.Ty.{Ty}
use Rattle.hp_base.specs.declared.ty.Ty.TheVariants.{Bool as BoolTy, Int as IntTy, Enum as EnumTy}
use Rattle.hp_base.specs.declared.value.Value.{Value}
use Rattle.hp_base.specs.declared.value.Value.TheVariants.{B, E, I}
use Rattle.hp_obc.specs.Form.{HasObcForm, machine_named, mem_vars}
use Rattle.hp_obc.specs.Kinded.{MemoryKinds, InnerKinds, memory_kinds, no_kinds, more_kinds, inner_kinds, HasKinds, HaveKinds, kinds_in, kinds_of_kept, kinds_behind, machine_keeps, none_kept}
use Rattle.hp_obc.specs.Machines.{ObcType, Machine, Obc}
use Rattle.hp_obc.specs.Steps.{Memory, Memories, memory, no_memory, more_memories, Names, given, machine_behaviour}
use Rattle.hp_obc.specs.Values.{enum_from, kind_of}
use Rattle.hp_obc.specs.declared.machine.Var.{Var}
use Rattle.hp_lines.specs.Lines.{texts_of}
use Rattle.hp_lines.specs.Values.{values_of}
use Rattle.hp_obctext.specs.MemoryKinds.{AreOfTypes, constructors_at, constructors_of, kind_at, kinds_at, misfit}
use Rattle.hp_obctext.specs.MemoryTexts.{Says}
use Rattle.hp_obctext.specs.declared.memory.error.MemErr.{MemErr}
use Rattle.hp_obctext.specs.declared.memory.error.MemErr.TheVariants as error
use Rattle.hp_obctext.proofs.MemoryFitting.{Fitting, fitting, same_misfit}
use Rattle.hp_obctext.proofs.MemoryRefusing.{no_place, one_checkpoint}
use Rattle.hp_obctext.proofs.MemoryValues.{same_some}
use Rattle.hp_exec.specs.Layouts.{AreAlike, AllAlike, flattened, all_flattened, flat_kinds, all_flat_kinds}
use Rattle.hp_driver.specs.Checkpoints.{IsCheckpointOf, RefusesCheckpoint}

-- ---- a memory as one list

both : (kinds more : List KindData) (values others : List Value) → AreOfKinds kinds values → AreOfKinds more others → AreOfKinds (kinds ++ more) (values ++ others)
both [] more [] others h g = g
both [] more (v ∷ values) others h g = absurd h
both (k ∷ kinds) more [] others h g = absurd h
both (k ∷ kinds) more (v ∷ values) others h g = (h.0, both kinds more values others h.1 g)

mutual
  -- a memory of its kinds is so as one list
  pub has_flat : (kinds : MemoryKinds) (m : Memory) → HasKinds kinds m → AreOfKinds (flat_kinds kinds) (flattened m)
  has_flat (memory_kinds ks inner) (memory values more) h = both ks (all_flat_kinds inner) values (all_flattened more) h.0 (have_flat inner more h.1)

  have_flat : (kinds : InnerKinds) (ms : Memories) → HaveKinds kinds ms → AreOfKinds (all_flat_kinds kinds) (all_flattened ms)
  have_flat no_kinds no_memory h = tt
  have_flat no_kinds (more_memories m ms) h = absurd h
  have_flat (more_kinds k ks) no_memory h = absurd h
  have_flat (more_kinds k ks) (more_memories m ms) h = both (flat_kinds k) (all_flat_kinds ks) (flattened m) (all_flattened ms) (has_flat k m h.0) (have_flat ks ms h.1)

-- memories of one shape are the same where they are so as one list
both_parts : (xs ys us vs : List Value) → length xs ≡ length ys → xs ++ us ≡ ys ++ vs → (xs ≡ ys) × (us ≡ vs)
both_parts [] [] us vs h e = (refl, e)
both_parts [] (y ∷ ys) us vs h e = absurd (omega (arith, h))
both_parts (x ∷ xs) [] us vs h e = absurd (omega (arith, h))
both_parts (x ∷ xs) (y ∷ ys) us vs h e =
    let long : length xs ≡ length ys = omega (arith, h) in
    let behind : xs ++ us ≡ ys ++ vs = cc in
    let first : x ≡ y = cc in
    let rest = both_parts xs ys us vs long behind in
    ((λ i. first i ∷ rest.0 i), rest.1)

mutual
  alike_length : (m n : Memory) → AreAlike m n → length (flattened m) ≡ length (flattened n)
  alike_length (memory values inner) (memory others more) h =
      length-append values (all_flattened inner) ∙ (λ i. h.0 i + all_length inner more h.1 i) ∙ sym (length-append others (all_flattened more))

  all_length : (ms ns : Memories) → AllAlike ms ns → length (all_flattened ms) ≡ length (all_flattened ns)
  all_length no_memory no_memory h = refl
  all_length no_memory (more_memories n ns) h = absurd h
  all_length (more_memories m ms) no_memory h = absurd h
  all_length (more_memories m ms) (more_memories n ns) h =
      length-append (flattened m) (all_flattened ms) ∙ (λ i. alike_length m n h.0 i + all_length ms ns h.1 i) ∙ sym (length-append (flattened n) (all_flattened ns))

mutual
  alike_same : (m n r : Memory) → AreAlike m r → AreAlike n r → flattened m ≡ flattened n → m ≡ n
  alike_same (memory values inner) (memory others more) (memory firsts insts) h k e =
      let parts = both_parts values others (all_flattened inner) (all_flattened more) (h.0 ∙ sym k.0) e in
      (λ i. memory (parts.0 i) (all_same inner more insts h.1 k.1 parts.1 i))

  all_same : (ms ns rs : Memories) → AllAlike ms rs → AllAlike ns rs → all_flattened ms ≡ all_flattened ns → ms ≡ ns
  all_same no_memory no_memory no_memory h k e = refl
  all_same no_memory no_memory (more_memories r rs) h k e = absurd h
  all_same no_memory (more_memories n ns) no_memory h k e = absurd k
  all_same no_memory (more_memories n ns) (more_memories r rs) h k e = absurd h
  all_same (more_memories m ms) no_memory no_memory h k e = absurd h
  all_same (more_memories m ms) no_memory (more_memories r rs) h k e = absurd k
  all_same (more_memories m ms) (more_memories n ns) no_memory h k e = absurd h
  all_same (more_memories m ms) (more_memories n ns) (more_memories r rs) h k e =
      let parts = both_parts (flattened m) (flattened n) (all_flattened ms) (all_flattened ns) (alike_length m r h.0 ∙ sym (alike_length n r k.0)) e in
      (λ i. more_memories (alike_same m n r h.0 k.0 parts.0 i) (all_same ms ns rs h.1 k.1 parts.1 i))

-- ---- kinds of declared types

-- the constructors of a kind are those of the type of its number
abbrev pub IsDeclared : List ObcType → KindData → Type 0
IsDeclared types Bools = Unit {0}
IsDeclared types Ints = Unit {0}
IsDeclared types (Constructors n names) = constructors_at types n ≡ names

abbrev pub AreDeclared : List ObcType → List KindData → Type 0
AreDeclared types [] = Unit {0}
AreDeclared types (k ∷ kinds) = IsDeclared types k × AreDeclared types kinds

declared_both : (types : List ObcType) (kinds more : List KindData) → AreDeclared types kinds → AreDeclared types more → AreDeclared types (kinds ++ more)
declared_both types [] more h g = g
declared_both types (k ∷ kinds) more h g = (h.0, declared_both types kinds more h.1 g)

-- a value of such a kind tells it
kind_found : (types : List ObcType) (k : KindData) (v : Value) → IsDeclared types k → IsOfKind k v → kind_at types v ≡ k
kind_found types Bools (B b) d h = refl
kind_found types Bools v d h = absurd h
kind_found types Ints (I n) d h = refl
kind_found types Ints v d h = absurd h
kind_found types (Constructors n names) (E t c) d h = (λ i. Constructors (h.0 i) (constructors_at types (h.0 i))) ∙ ap (λ xs. Constructors n xs) d
kind_found types (Constructors n names) v d h = absurd h

pub kinds_found : (types : List ObcType) (kinds : List KindData) (values : List Value) → AreDeclared types kinds → AreOfKinds kinds values → kinds_at types values ≡ kinds
kinds_found types [] [] d h = refl
kinds_found types [] (v ∷ values) d h = absurd h
kinds_found types (k ∷ kinds) [] d h = absurd h
kinds_found types (k ∷ kinds) (v ∷ values) d h = λ i. kind_found types k v d.0 h.0 i ∷ kinds_found types kinds values d.1 h.1 i

-- ---- the kinds that a machine declares

-- some of the types stand behind n others
abbrev Behind : List ObcType → ℕ → List ObcType → Type 0
Behind all n types = (i : ℕ) → slice_get all (n + i) ≡ slice_get types i

enum_declared_by : (d : Bool) (all : List ObcType) (n : ℕ) (t : ObcType) (types : List ObcType) (x : List ℕ) → Behind all n (t ∷ types) → IsDeclared all (unwrap_or (enum_from (suc n) types x) Bools) →
    IsDeclared all (unwrap_or (if d then Some (Constructors n t.cons) else enum_from (suc n) types x) Bools)
enum_declared_by true all n t types x b rest =
    let here : n ≡ n + 0 = omega arith in
    ap (λ k. constructors_of (slice_get all k)) here ∙ ap constructors_of (b 0)
enum_declared_by false all n t types x b rest = rest

enum_declared : (all : List ObcType) (n : ℕ) (types : List ObcType) (x : List ℕ) → Behind all n types → IsDeclared all (unwrap_or (enum_from n types x) Bools)
enum_declared all n [] x b = tt
enum_declared all n (t ∷ types) x b =
    enum_declared_by (bytes_eq t.name x) all n t types x b (enum_declared all (suc n) types x (λ i. let next : suc n + i ≡ n + suc i = omega arith in ap (slice_get all) next ∙ b (suc i)))

type_declared : (types : List ObcType) (ty : Ty) → IsDeclared types (unwrap_or (kind_of types ty) Bools)
type_declared types BoolTy = tt
type_declared types IntTy = tt
type_declared types (EnumTy x) = enum_declared types 0 types x (λ i. ap (slice_get types) (omega arith))

vars_declared : (types : List ObcType) (vars : List Var) → AreDeclared types (kinds_in types vars)
vars_declared types [] = tt
vars_declared types (x ∷ vars) = (type_declared types x.ty, vars_declared types vars)

abbrev AllDeclared : List ObcType → Names MemoryKinds → Type 0
AllDeclared types known = (x : List ℕ) → AreDeclared types (flat_kinds (known x))

insts_declared : (types : List ObcType) (known : Names MemoryKinds) (insts : List (List ℕ × List ℕ)) → AllDeclared types known →
    AreDeclared types (all_flat_kinds (inner_kinds (map (λ (i : List ℕ × List ℕ). known i.1) insts)))
insts_declared types known [] h = tt
insts_declared types known (i ∷ insts) h = declared_both types (flat_kinds (known i.1)) (all_flat_kinds (inner_kinds (map (λ (i : List ℕ × List ℕ). known i.1) insts))) (h i.1) (insts_declared types known insts h)

kept_declared : (types : List ObcType) (known : Names MemoryKinds) (m : Machine) → AllDeclared types known → AreDeclared types (flat_kinds (kinds_of_kept types known m))
kept_declared types known m h =
    declared_both types (kinds_in types (mem_vars m.mems)) (all_flat_kinds (inner_kinds (map (λ (i : List ℕ × List ℕ). known i.1) m.insts))) (vars_declared types (mem_vars m.mems)) (insts_declared types known m.insts h)

next_declared : (d : Bool) (types : List ObcType) (x : List ℕ) (kinds : MemoryKinds) (known : Names MemoryKinds) → AreDeclared types (flat_kinds kinds) → AllDeclared types known →
    AreDeclared types (flat_kinds (if d then kinds else known x))
next_declared true types x kinds known k h = k
next_declared false types x kinds known k h = h x

behind_declared : (types : List ObcType) (machines : List Machine) (known : Names MemoryKinds) → AllDeclared types known → AllDeclared types (kinds_behind types machines known)
behind_declared types [] known h = h
behind_declared types (m ∷ machines) known h =
    behind_declared types machines (given m.name (kinds_of_kept types known m) known) (λ x. next_declared (bytes_eq m.name x) types x (kinds_of_kept types known m) known (kept_declared types known m h) h)

-- the kinds of what the machine of a name keeps
pub keeps_declared : (o : Obc) (node : List ℕ) → AreDeclared o.types (flat_kinds (machine_keeps o node))
keeps_declared o node = behind_declared o.types o.machines (λ x. none_kept) (λ x. tt) node

-- values of them tell them
pub keeps_found : (o : Obc) (node : List ℕ) (values : List Value) → AreOfKinds (flat_kinds (machine_keeps o node)) values → kinds_at o.types values ≡ flat_kinds (machine_keeps o node)
keeps_found o node values h = kinds_found o.types (flat_kinds (machine_keeps o node)) values (keeps_declared o node) h

-- ---- a checkpoint of a machine is not refused

module _ (o : Obc) (node text : List ℕ) (memory : Memory) (form : HasObcForm o.types o.machines) (there : IsSome (machine_named o.machines node)) (is : IsCheckpointOf o node memory text) where
  abbrev values : List Value
  values = flattened memory

  kept : AreOfKinds (flat_kinds (machine_keeps o node)) values
  kept = has_flat (machine_keeps o node) memory is.kinded

  same : kinds_at o.types values ≡ flat_kinds (machine_keeps o node)
  same = keeps_found o node values kept

  types : AreOfTypes o.types values
  types = subst (λ kinds. AreOfKinds kinds values) (sym same) kept

  abbrev words : List (List ℕ)
  words = texts_of (kinds_at o.types values) values

  fits : Fitting o.types node values values
  fits = fitting o.types o.machines node values values form there types types

  says : Says text node words
  says = subst (λ t. Says t node words) (sym is.spelled) fits.says

  none : misfit node (flat_kinds (machine_keeps o node)) node words ≡ None
  none = ap (λ kinds. misfit node kinds node words) (sym same) ∙ fits.fits

  no_misfit : (name : List ℕ) (ws : List (List ℕ)) (cause : MemErr) → Says text name ws → misfit node (flat_kinds (machine_keeps o node)) name ws ≡ Some cause → ⊥
  no_misfit name ws cause s e =
      let both : Some cause ≡ None = sym e ∙ same_misfit node (flat_kinds (machine_keeps o node)) text name node ws words s says ∙ none in cc

  pub not_refused : (cause : MemErr) → RefusesCheckpoint o node text cause → ⊥
  not_refused (error.Syntax span) r = no_place text node words span r says
  not_refused error.Node r = no_misfit r.0 r.1 error.Node r.2 r.3
  not_refused (error.Count found) r = no_misfit r.0 r.1 (error.Count found) r.2 r.3
  not_refused (error.Word number) r = no_misfit r.0 r.1 (error.Word number) r.2 r.3

  -- nor is it one of another memory
  module _ (other : Memory) (also : IsCheckpointOf o node other text) where
    abbrev others : List Value
    others = flattened other

    others_kept : AreOfKinds (flat_kinds (machine_keeps o node)) others
    others_kept = has_flat (machine_keeps o node) other also.kinded

    others_fit : Fitting o.types node values others
    others_fit = fitting o.types o.machines node values others form there types (subst (λ kinds. AreOfKinds kinds others) (sym same) others_kept)

    same_texts : words ≡ texts_of (kinds_at o.types values) others
    same_texts = (one_checkpoint text node node words (texts_of (kinds_at o.types values) others) says (subst (λ t. Says t node (texts_of (kinds_at o.types values) others)) (sym also.spelled) others_fit.says)).1

    same_values : values ≡ others
    same_values = same_some values others (sym fits.spelled_are ∙ ap (values_of (kinds_at o.types values)) same_texts ∙ others_fit.spelled_are)

    pub same_memory : memory ≡ other
    same_memory = alike_same memory other (machine_behaviour o node).reset is.shaped also.shaped same_values
