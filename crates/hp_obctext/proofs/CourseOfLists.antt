-- How the readers of words and of declarations go.
use Rattle.std.proofs.Common.{◌≡◌, ℕ, ◌<◌, Bool, true, false, if◌then◌else◌, List, [], ◌∷◌, length, codes, None, Some, refl, sym, ap, ◌∙◌}
use Rattle.hp_obc.specs.declared.machine.Var.{Var}
use Rattle.hp_obc.specs.declared.machine.Mem.{Mem}
use Rattle.hp_obc.specs.Machines.{ObcType}
use Rattle.hp_obctext.specs.Outcomes.{Words, Outcome, done, refused, ◌>>=◌}
use Rattle.hp_obctext.specs.Spelling.{this, name_of, constructor_of, ty_of, const_of}
use Rattle.hp_obctext.specs.Reading.{Reader, one, fixed, many, behind, is_ahead, is_this, listed, section, var, mem, inst, next_constructor, constructors, type_declaration}
use Rattle.hp_obctext.proofs.Truths.{equal_bytes}
use Rattle.hp_obctext.proofs.Rounds.{Below, Strict, then_falls, one_strict}
use Rattle.hp_obctext.proofs.ListRounds.{behind_strict, next_constructor_strict}
use Rattle.hp_obctext.proofs.Courses.{same_ahead, Course, Runs, Anything, runs_fall, alike, then_runs, next, done_runs, mapped_runs, one_runs, many_runs}

-- ---- what is ahead

abbrev pub IsAhead : List ℕ → Words → Type 0
IsAhead word ws = is_ahead (is_this word) ws ≡ true

abbrev pub NotAhead : (List ℕ → Bool) → Words → Type 0
NotAhead begins ws = is_ahead begins ws ≡ false

-- where one word is ahead, no other is
pub other_ahead : (word : List ℕ) (begins : List ℕ → Bool) → begins word ≡ false → (us : Words) → IsAhead word us → NotAhead begins us
other_ahead word begins e [] h = absurd cc
other_ahead word begins e (w ∷ ws) h = ap begins (equal_bytes w word h) ∙ e

-- what begins by a fixed word is read only where this word is ahead
pub fixed_ahead : {B : Type 0} (word : List ℕ) (f : Unit {0} × Words → Outcome B) (us : Words) (b : B) (rest : Words) → (fixed word us >>= f) ≡ done b rest → IsAhead word us
fixed_ahead word f [] b rest e = absurd cc
fixed_ahead word f (w ∷ ws) b rest e = by (is_this word w) refl e
  where
    by : (d : Bool) → is_this word w ≡ d → ((elim (if d then Some tt else None) [ Some a ↦ done a ws | None ↦ refused (w ∷ ws) ]) >>= f) ≡ done b rest → d ≡ true
    by true p e = refl
    by false p e = absurd cc

pub strict_of : {A : Type 0} (read : Reader A) → ((ws : Words) (a : A) (rest : Words) → read ws ≡ done a rest → length rest < length ws) → Strict read
strict_of read h ws = by (read ws) refl
  where
    by : (o : Outcome _) → read ws ≡ o → Below (length ws) o
    by (done a rest) e = h ws a rest e
    by (refused rest) e = tt

pub then_strict : {A B : Type 0} (read : Reader A) (f : A × Words → Outcome B) (Next : Words → Type 0) → Strict read → ((a : A) → Runs (λ ws. f (a, ws)) Next) → Strict (λ ws. read ws >>= f)
then_strict read f Next s k ws = then_falls (read ws) f (length ws) (s ws) (λ a rest less. runs_fall (λ vs. f (a, vs)) Next (k a) rest (length ws) less)

-- ---- words

pub fixed_runs : (word : List ℕ) → this word word ≡ Some tt → Runs (fixed word) Anything
fixed_runs word e = one_runs (this word) word tt e

pub name_runs : Runs (one name_of) Anything
name_runs = one_runs name_of (codes "x") (codes "x") refl

pub constructor_runs : Runs (one constructor_of) Anything
constructor_runs = one_runs constructor_of (codes "A") (codes "A") refl

ty_runs : Runs (one ty_of) Anything
ty_runs = one_runs ty_of (codes "bool") _ refl

const_runs : Runs (one const_of) Anything
const_runs = one_runs const_of (codes "true") _ refl

pub behind_runs : {A : Type 0} (word : List ℕ) (read : Reader A) (Stop : Words → Type 0) → this word word ≡ Some tt → Runs read Stop → Runs (behind word read) Stop
behind_runs word read Stop e r = next (fixed word) (λ u. read u.1) Stop (fixed_runs word e) (λ u. r)

-- ---- lists in parentheses

module _ {A : Type 0} (item : Reader A) (strict : Strict item) (runs : Runs item Anything) where
  abbrev more_items : A × Words → Outcome (List A)
  more_items r = many (is_this (codes ",")) (behind (codes ",") item) (r.0 ∷ []) r.1

  next_strict : Strict (behind (codes ",") item)
  next_strict = behind_strict (codes ",") item (runs_fall item Anything runs)

  more_run : (a : A) → Runs (λ ws. more_items (a, ws)) (IsAhead (codes ")"))
  more_run a =
      many_runs (is_this (codes ",")) (behind (codes ",") item) next_strict Anything (IsAhead (codes ")")) (behind_runs (codes ",") item Anything refl runs) (λ us h. tt)
      (other_ahead (codes ")") (is_this (codes ",")) refl) (λ us h. tt) (a ∷ [])

  closed : (ws : Words) → IsAhead (codes ")") ws → listed item ws ≡ done [] ws
  closed ws h = ap (λ d. if d then done [] ws else (item ws >>= more_items)) h

  opened : (ws : Words) → NotAhead (is_this (codes ")")) ws → listed item ws ≡ (item ws >>= more_items)
  opened ws h = ap (λ d. if d then done [] ws else (item ws >>= more_items)) h

  listed_runs : Runs (listed item) (IsAhead (codes ")"))
  listed_runs vs = by (is_ahead (is_this (codes ")")) vs) refl
    where
      by : (d : Bool) → is_ahead (is_this (codes ")")) vs ≡ d → Course (listed item) (IsAhead (codes ")")) vs (if d then done [] vs else (item vs >>= more_items))
      by true p = record { front = []; split = refl; same = λ other s. closed other (sym (same_ahead (is_this (codes ")")) vs other s) ∙ p); stopped = closed }
      by false p =
          alike (listed item) (λ us. item us >>= more_items) (IsAhead (codes ")")) vs (λ us s. opened us (sym (same_ahead (is_this (codes ")")) vs us s) ∙ p)) (record { more = []; value = []; whole = closed }) (item vs >>= more_items)
          (then_strict item more_items (IsAhead (codes ")")) strict more_run vs) (next item more_items (IsAhead (codes ")")) runs more_run vs)

  pub section_runs : (title : List ℕ) → this title title ≡ Some tt → Runs (section title item) Anything
  section_runs title e =
      next (fixed title) _ Anything (fixed_runs title e) (λ u. next (fixed (codes "(")) _ Anything (fixed_runs (codes "(") refl)
      (λ u. then_runs (listed item) _ (IsAhead (codes ")")) Anything (λ xs us b rest e s. fixed_ahead (codes ")") _ us b rest e) listed_runs
      (λ xs. next (fixed (codes ")")) _ Anything (fixed_runs (codes ")") refl) (λ u. done_runs xs))))

var_behind : (x : List ℕ) → Runs {A = Var} (λ ws. fixed (codes ":") ws >>= λ r. one ty_of r.1 >>= λ t. done (record { name = x; ty = t.0 }) t.1) Anything
var_behind x = next (fixed (codes ":")) _ Anything (fixed_runs (codes ":") refl) (λ u. next (one ty_of) _ Anything ty_runs (λ t. done_runs _))

pub var_sections : (title : List ℕ) → this title title ≡ Some tt → Runs (section title var) Anything
var_sections = section_runs var (then_strict (one name_of) _ Anything (one_strict name_of) var_behind) (next (one name_of) _ Anything name_runs var_behind)

mem_behind : (x : List ℕ) → Runs {A = Mem} (λ ws. fixed (codes ":") ws >>= λ r. one ty_of r.1 >>= λ t. fixed (codes "=") t.1 >>= λ r. one const_of r.1 >>= λ c. done (record { name = x; ty = t.0; first = c.0 }) c.1) Anything
mem_behind x =
    next (fixed (codes ":")) _ Anything (fixed_runs (codes ":") refl) (λ u. next (one ty_of) _ Anything ty_runs (λ t. next (fixed (codes "=")) _ Anything (fixed_runs (codes "=") refl)
    (λ u. next (one const_of) _ Anything const_runs (λ c. done_runs _))))

pub mem_section : Runs (section (codes "mem") mem) Anything
mem_section = section_runs mem (then_strict (one name_of) _ Anything (one_strict name_of) mem_behind) (next (one name_of) _ Anything name_runs mem_behind) (codes "mem") refl

inst_behind : (x : List ℕ) → Runs {A = List ℕ × List ℕ} (λ ws. fixed (codes ":") ws >>= λ r. one name_of r.1 >>= λ m. done (x, m.0) m.1) Anything
inst_behind x = next (fixed (codes ":")) _ Anything (fixed_runs (codes ":") refl) (λ u. next (one name_of) _ Anything name_runs (λ t. done_runs _))

pub inst_section : Runs (section (codes "inst") inst) Anything
inst_section = section_runs inst (then_strict (one name_of) _ Anything (one_strict name_of) inst_behind) (next (one name_of) _ Anything name_runs inst_behind) (codes "inst") refl

-- ---- types

constructors_run : Runs constructors (NotAhead (is_this (codes "|")))
constructors_run =
    next (one constructor_of) (λ c. many (is_this (codes "|")) next_constructor (c.0 ∷ []) c.1) (NotAhead (is_this (codes "|"))) constructor_runs
    (λ c. many_runs (is_this (codes "|")) next_constructor (strict_of next_constructor next_constructor_strict) Anything (NotAhead (is_this (codes "|"))) (behind_runs (codes "|") (one constructor_of) Anything refl constructor_runs)
    (λ us h. tt) (λ us h. h) (λ us h. tt) (c ∷ []))

pub type_runs : Runs type_declaration (NotAhead (is_this (codes "|")))
type_runs =
    let Stop : Words → Type 0 = NotAhead (is_this (codes "|")) in
    next (fixed (codes "type")) _ Stop (fixed_runs (codes "type") refl) (λ u. next (one name_of) _ Stop name_runs (λ x. next (fixed (codes "=")) _ Stop (fixed_runs (codes "=") refl)
    (λ u. mapped_runs {B = ObcType} constructors (λ cs. record { name = x; cons = cs }) Stop constructors_run)))
