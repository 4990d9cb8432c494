-- Lists of declarations, names and arguments, round by round.
use Rattle.std.proofs.Common.{◌≡◌, ℕ, zero, suc, ◌-◌, ◌<◌, ◌≤◌, Bool, true, false, if◌then◌else◌, List, [], ◌∷◌, ◌++◌, length, codes, refl, sym, ap, ◌∙◌, arith}
use Rattle.hp_obc.specs.declared.command.Arg.{Arg}
use Rattle.hp_obc.specs.declared.machine.Var.{Var}
use Rattle.hp_obc.specs.declared.machine.Mem.{Mem}
use Rattle.hp_obc.specs.Machines.{ObcType}
use Rattle.hp_obctext.specs.Outcomes.{Words, done, refused, ◌>>=◌}
use Rattle.hp_obctext.specs.Spelling.{this, name_of, constructor_of, ty_of, const_of, arg_of}
use Rattle.hp_obctext.specs.Reading.{Reader, one, fixed, many, behind, is_ahead, is_this, is_open, listed, section, var, mem, inst, args_behind, next_constructor, constructors, type_declaration}
use Rattle.hp_obctext.proofs.Rounds.{Below, below_done, Strict, Falls, then_falls, one_strict, one_falls, many_end, many_added, many_refused, many_falls}

abbrev Pair : Type 0
Pair = List ℕ × List ℕ

pub behind_strict : {A : Type 0} (word : List ℕ) (read : Reader A) → Falls read → Strict (behind word read)
behind_strict word read h ws = then_falls (fixed word ws) (λ r. read r.1) (length ws) (one_strict (this word) ws) (λ a rest k. h rest (length ws) k)

pub var_falls : Falls var
var_falls ws n h =
    then_falls (one name_of ws) _ n (one_falls name_of ws n h) (λ x r k. then_falls (fixed (codes ":") r) _ n (one_falls (this (codes ":")) r n k) (λ u s k. then_falls (one ty_of s) _ n (one_falls ty_of s n k) (λ t v k. k)))

pub mem_falls : Falls mem
mem_falls ws n h =
    then_falls (one name_of ws) _ n (one_falls name_of ws n h) (λ x r k. then_falls (fixed (codes ":") r) _ n (one_falls (this (codes ":")) r n k) (λ u s k. then_falls (one ty_of s) _ n (one_falls ty_of s n k)
    (λ t v k. then_falls (fixed (codes "=") v) _ n (one_falls (this (codes "=")) v n k) (λ u w k. then_falls (one const_of w) _ n (one_falls const_of w n k) (λ c z k. k)))))

pub inst_falls : Falls inst
inst_falls ws n h =
    then_falls (one name_of ws) _ n (one_falls name_of ws n h) (λ x r k. then_falls (fixed (codes ":") r) _ n (one_falls (this (codes ":")) r n k) (λ u s k. then_falls (one name_of s) _ n (one_falls name_of s n k) (λ t v k. k)))

var_next : Strict (behind (codes ",") var)
var_next = behind_strict (codes ",") var var_falls

pub next_var_strict : (ws : Words) (x : Var) (rest : Words) → behind (codes ",") var ws ≡ done x rest → length rest < length ws
next_var_strict ws x rest e = below_done (length ws) (behind (codes ",") var ws) x rest (var_next ws) e

pub vars_end : (items : List Var) (ws : Words) → is_ahead (is_this (codes ",")) ws ≡ false → many (is_this (codes ",")) (behind (codes ",") var) items ws ≡ done items ws
vars_end = many_end (is_this (codes ",")) (behind (codes ",") var) var_next

pub vars_pushed : (xs : List Var) (x : Var) (ws rest : Words) → is_ahead (is_this (codes ",")) ws ≡ true → (behind (codes ",") var) ws ≡ done x rest → many (is_this (codes ",")) (behind (codes ",") var) (xs ++ x ∷ []) rest ≡ many (is_this (codes ",")) (behind (codes ",") var) xs ws
vars_pushed = many_added (is_this (codes ",")) (behind (codes ",") var) var_next

pub vars_refused : (items : List Var) (ws rest : Words) → is_ahead (is_this (codes ",")) ws ≡ true → (behind (codes ",") var) ws ≡ refused rest → many (is_this (codes ",")) (behind (codes ",") var) items ws ≡ refused rest
vars_refused = many_refused (is_this (codes ",")) (behind (codes ",") var) var_next

mem_next : Strict (behind (codes ",") mem)
mem_next = behind_strict (codes ",") mem mem_falls

pub next_mem_strict : (ws : Words) (x : Mem) (rest : Words) → behind (codes ",") mem ws ≡ done x rest → length rest < length ws
next_mem_strict ws x rest e = below_done (length ws) (behind (codes ",") mem ws) x rest (mem_next ws) e

pub mems_end : (items : List Mem) (ws : Words) → is_ahead (is_this (codes ",")) ws ≡ false → many (is_this (codes ",")) (behind (codes ",") mem) items ws ≡ done items ws
mems_end = many_end (is_this (codes ",")) (behind (codes ",") mem) mem_next

pub mems_pushed : (xs : List Mem) (x : Mem) (ws rest : Words) → is_ahead (is_this (codes ",")) ws ≡ true → (behind (codes ",") mem) ws ≡ done x rest → many (is_this (codes ",")) (behind (codes ",") mem) (xs ++ x ∷ []) rest ≡ many (is_this (codes ",")) (behind (codes ",") mem) xs ws
mems_pushed = many_added (is_this (codes ",")) (behind (codes ",") mem) mem_next

pub mems_refused : (items : List Mem) (ws rest : Words) → is_ahead (is_this (codes ",")) ws ≡ true → (behind (codes ",") mem) ws ≡ refused rest → many (is_this (codes ",")) (behind (codes ",") mem) items ws ≡ refused rest
mems_refused = many_refused (is_this (codes ",")) (behind (codes ",") mem) mem_next

inst_next : Strict (behind (codes ",") inst)
inst_next = behind_strict (codes ",") inst inst_falls

pub next_inst_strict : (ws : Words) (x : Pair) (rest : Words) → behind (codes ",") inst ws ≡ done x rest → length rest < length ws
next_inst_strict ws x rest e = below_done (length ws) (behind (codes ",") inst ws) x rest (inst_next ws) e

pub insts_end : (items : List Pair) (ws : Words) → is_ahead (is_this (codes ",")) ws ≡ false → many (is_this (codes ",")) (behind (codes ",") inst) items ws ≡ done items ws
insts_end = many_end (is_this (codes ",")) (behind (codes ",") inst) inst_next

pub insts_pushed : (xs : List Pair) (x : Pair) (ws rest : Words) → is_ahead (is_this (codes ",")) ws ≡ true → (behind (codes ",") inst) ws ≡ done x rest → many (is_this (codes ",")) (behind (codes ",") inst) (xs ++ x ∷ []) rest ≡ many (is_this (codes ",")) (behind (codes ",") inst) xs ws
insts_pushed = many_added (is_this (codes ",")) (behind (codes ",") inst) inst_next

pub insts_refused : (items : List Pair) (ws rest : Words) → is_ahead (is_this (codes ",")) ws ≡ true → (behind (codes ",") inst) ws ≡ refused rest → many (is_this (codes ",")) (behind (codes ",") inst) items ws ≡ refused rest
insts_refused = many_refused (is_this (codes ",")) (behind (codes ",") inst) inst_next

-- such lists in parentheses
listed_falls : {A : Type 0} (item : Reader A) → Falls item → Falls (listed item)
listed_falls item h ws n k = by (is_ahead (is_this (codes ")")) ws)
    (then_falls (item ws) (λ r. many (is_this (codes ",")) (behind (codes ",") item) (r.0 ∷ []) r.1) n (h ws n k) (λ a rest l. many_falls (is_this (codes ",")) (behind (codes ",") item) (behind_strict (codes ",") item h) (a ∷ []) rest n l))
  where
    by : (d : Bool) → Below n (item ws >>= λ r. many (is_this (codes ",")) (behind (codes ",") item) (r.0 ∷ []) r.1) → Below n (if d then done [] ws else (item ws >>= λ r. many (is_this (codes ",")) (behind (codes ",") item) (r.0 ∷ []) r.1))
    by true m = k
    by false m = m

section_falls : {A : Type 0} (title : List ℕ) (item : Reader A) → Falls item → Falls (section title item)
section_falls title item h ws n k =
    then_falls (fixed title ws) _ n (one_falls (this title) ws n k) (λ u r k. then_falls (fixed (codes "(") r) _ n (one_falls (this (codes "(")) r n k)
    (λ u s k. then_falls (listed item s) _ n (listed_falls item h s n k) (λ xs v k. then_falls (fixed (codes ")") v) _ n (one_falls (this (codes ")")) v n k) (λ u w k. k))))

pub vars_fall : (title : List ℕ) → Falls (section title var)
vars_fall title = section_falls title var var_falls

pub mems_fall : Falls (section (codes "mem") mem)
mems_fall = section_falls (codes "mem") mem mem_falls

pub insts_fall : Falls (section (codes "inst") inst)
insts_fall = section_falls (codes "inst") inst inst_falls

pub names_end : (items : List (List ℕ)) (ws : Words) → is_ahead is_open ws ≡ false → many is_open (one name_of) items ws ≡ done items ws
names_end = many_end is_open (one name_of) (one_strict name_of)

pub names_pushed : (xs : List (List ℕ)) (x : (List ℕ)) (ws rest : Words) → is_ahead is_open ws ≡ true → (one name_of) ws ≡ done x rest → many is_open (one name_of) (xs ++ x ∷ []) rest ≡ many is_open (one name_of) xs ws
names_pushed = many_added is_open (one name_of) (one_strict name_of)

pub names_refused : (items : List (List ℕ)) (ws rest : Words) → is_ahead is_open ws ≡ true → (one name_of) ws ≡ refused rest → many is_open (one name_of) items ws ≡ refused rest
names_refused = many_refused is_open (one name_of) (one_strict name_of)

pub args_end : (items : List Arg) (ws : Words) → is_ahead is_open ws ≡ false → many is_open (one arg_of) items ws ≡ done items ws
args_end = many_end is_open (one arg_of) (one_strict arg_of)

pub args_pushed : (xs : List Arg) (x : Arg) (ws rest : Words) → is_ahead is_open ws ≡ true → (one arg_of) ws ≡ done x rest → many is_open (one arg_of) (xs ++ x ∷ []) rest ≡ many is_open (one arg_of) xs ws
args_pushed = many_added is_open (one arg_of) (one_strict arg_of)

pub args_refused : (items : List Arg) (ws rest : Words) → is_ahead is_open ws ≡ true → (one arg_of) ws ≡ refused rest → many is_open (one arg_of) items ws ≡ refused rest
args_refused = many_refused is_open (one arg_of) (one_strict arg_of)

pub names_fall : Falls (many is_open (one name_of) [])
names_fall = many_falls is_open (one name_of) (one_strict name_of) []

pub args_fall : Falls (many is_open (one arg_of) [])
args_fall = many_falls is_open (one arg_of) (one_strict arg_of) []

-- so many arguments
pub args_done : (n : ℕ) (args : List Arg) (ws : Words) → n ≤ 0 → args_behind n args ws ≡ done args ws
args_done zero args ws h = refl
args_done (suc n) args ws h = absurd (omega (arith, h))

pub args_next : (n : ℕ) (args : List Arg) (a : Arg) (ws rest : Words) → 0 < n → one arg_of ws ≡ done a rest → args_behind (n - 1) (args ++ a ∷ []) rest ≡ args_behind n args ws
args_next zero args a ws rest h e = absurd (omega (arith, h))
args_next (suc n) args a ws rest h e =
    let less : suc n - 1 ≡ n = omega arith in
    ap (λ m. args_behind m (args ++ a ∷ []) rest) less ∙ sym (ap (λ o. o >>= λ a. args_behind n (args ++ (a.0 ∷ [])) a.1) e)

pub args_stopped : (n : ℕ) (args : List Arg) (ws rest : Words) → 0 < n → one arg_of ws ≡ refused rest → args_behind n args ws ≡ refused rest
args_stopped zero args ws rest h e = absurd (omega (arith, h))
args_stopped (suc n) args ws rest h e = ap (λ o. o >>= λ a. args_behind n (args ++ (a.0 ∷ [])) a.1) e

pub args_behind_fall : (m : ℕ) (args : List Arg) → Falls (args_behind m args)
args_behind_fall zero args ws n h = h
args_behind_fall (suc m) args ws n h = then_falls (one arg_of ws) (λ a. args_behind m (args ++ (a.0 ∷ [])) a.1) n (one_falls arg_of ws n h) (λ a rest k. args_behind_fall m (args ++ (a ∷ [])) rest n k)

pub constructor_next : Strict next_constructor
constructor_next = behind_strict (codes "|") (one constructor_of) (one_falls constructor_of)

pub next_constructor_strict : (ws : Words) (x : (List ℕ)) (rest : Words) → next_constructor ws ≡ done x rest → length rest < length ws
next_constructor_strict ws x rest e = below_done (length ws) (next_constructor ws) x rest (constructor_next ws) e

pub constructors_end : (items : List (List ℕ)) (ws : Words) → is_ahead (is_this (codes "|")) ws ≡ false → many (is_this (codes "|")) next_constructor items ws ≡ done items ws
constructors_end = many_end (is_this (codes "|")) next_constructor constructor_next

pub constructors_pushed : (xs : List (List ℕ)) (x : (List ℕ)) (ws rest : Words) → is_ahead (is_this (codes "|")) ws ≡ true → next_constructor ws ≡ done x rest → many (is_this (codes "|")) next_constructor (xs ++ x ∷ []) rest ≡ many (is_this (codes "|")) next_constructor xs ws
constructors_pushed = many_added (is_this (codes "|")) next_constructor constructor_next

pub constructors_refused : (items : List (List ℕ)) (ws rest : Words) → is_ahead (is_this (codes "|")) ws ≡ true → next_constructor ws ≡ refused rest → many (is_this (codes "|")) next_constructor items ws ≡ refused rest
constructors_refused = many_refused (is_this (codes "|")) next_constructor constructor_next

constructors_fall : Falls constructors
constructors_fall ws n h =
    then_falls (one constructor_of ws) (λ c. many (is_this (codes "|")) next_constructor (c.0 ∷ []) c.1) n (one_falls constructor_of ws n h) (λ c rest k. many_falls (is_this (codes "|")) next_constructor constructor_next (c ∷ []) rest n k)

pub type_next : Strict type_declaration
type_next ws =
    then_falls (fixed (codes "type") ws) _ (length ws) (one_strict (this (codes "type")) ws) (λ u r k. then_falls (one name_of r) _ (length ws) (one_falls name_of r (length ws) k)
    (λ x s k. then_falls (fixed (codes "=") s) _ (length ws) (one_falls (this (codes "=")) s (length ws) k) (λ u v k. then_falls (constructors v) _ (length ws) (constructors_fall v (length ws) k) (λ cs w k. k))))

pub type_strict : (ws : Words) (x : ObcType) (rest : Words) → type_declaration ws ≡ done x rest → length rest < length ws
type_strict ws x rest e = below_done (length ws) (type_declaration ws) x rest (type_next ws) e

pub types_end : (items : List ObcType) (ws : Words) → is_ahead (is_this (codes "type")) ws ≡ false → many (is_this (codes "type")) type_declaration items ws ≡ done items ws
types_end = many_end (is_this (codes "type")) type_declaration type_next

pub types_pushed : (xs : List ObcType) (x : ObcType) (ws rest : Words) → is_ahead (is_this (codes "type")) ws ≡ true → type_declaration ws ≡ done x rest → many (is_this (codes "type")) type_declaration (xs ++ x ∷ []) rest ≡ many (is_this (codes "type")) type_declaration xs ws
types_pushed = many_added (is_this (codes "type")) type_declaration type_next

pub types_refused : (items : List ObcType) (ws rest : Words) → is_ahead (is_this (codes "type")) ws ≡ true → type_declaration ws ≡ refused rest → many (is_this (codes "type")) type_declaration items ws ≡ refused rest
types_refused = many_refused (is_this (codes "type")) type_declaration type_next
