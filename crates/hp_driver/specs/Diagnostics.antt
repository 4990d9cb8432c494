-- The lines of diagnostics that name why a text is refused.
use Rattle.std.specs.Prelude.{ℕ, ◌+◌, nat_eq, if◌then◌else◌, List, [], ◌∷◌, ◌++◌, Option, None, Some, option_map, codes, decimal}
use Rattle.hp_base.specs.Limits.{most, word}
use Rattle.hp_base.specs.declared.limit.Limit.{Limit}
use Rattle.hp_base.specs.declared.limit.What.{What}
use Rattle.hp_base.specs.declared.limit.What.TheVariants.{Calls, Text}
use Rattle.hp_base.specs.declared.span.Span.{Span}
use Rattle.hp_meaning.specs.declared.causal.point.Point.{Point}
use Rattle.hp_cause.specs.declared.error.CauseErr.{CauseErr}
use Rattle.hp_cause.specs.declared.error.CauseErr.TheVariants as cause
use Rattle.hp_cert.specs.declared.certtext.error.CertErr.{CertErr}
use Rattle.hp_cert.specs.declared.certtext.error.CertErr.TheVariants as certificate
use Rattle.hp_cert.specs.declared.certtext.error.Cond.{Cond}
use Rattle.hp_cert.specs.declared.certtext.error.Cond.TheVariants as condition
use Rattle.hp_cert.specs.declared.certtext.error.Misfit.{Misfit}
use Rattle.hp_cert.specs.declared.certtext.error.Misfit.TheVariants as misfit
use Rattle.hp_clocks.specs.declared.error.ClockErr.{ClockErr}
use Rattle.hp_clocks.specs.declared.error.ClockErr.TheVariants as clock
use Rattle.hp_obctext.specs.declared.memory.error.MemErr.{MemErr}
use Rattle.hp_obctext.specs.declared.memory.error.MemErr.TheVariants as memory
use Rattle.hp_init.specs.declared.error.InitErr.{InitErr}
use Rattle.hp_init.specs.declared.error.InitErr.TheVariants as init
use Rattle.hp_compile.specs.declared.refusal.Place.{Place}
use Rattle.hp_compile.specs.declared.refusal.Place.TheVariants.{Whole, At}
use Rattle.hp_compile.specs.declared.refusal.Refusal.{Refusal}
use Rattle.hp_compile.specs.declared.refusal.Refusal.TheVariants as refusal
use Rattle.hp_exec.specs.Bounds.{most_chained, most_instances}
use Rattle.hp_expand.specs.declared.error.ExpandErr.{ExpandErr}
use Rattle.hp_expand.specs.declared.error.ExpandErr.TheVariants as expand
use Rattle.hp_expand.specs.declared.error.Shape.{Shape}
use Rattle.hp_expand.specs.declared.error.Shape.TheVariants.{Call, Inline, WrongType}
use Rattle.hp_names.specs.declared.error.NameErr.{NameErr}
use Rattle.hp_names.specs.declared.error.NameErr.TheVariants as name
use Rattle.hp_typing.specs.declared.error.Is.{Is}
use Rattle.hp_typing.specs.declared.error.Is.TheVariants as is
use Rattle.hp_typing.specs.declared.error.TypeErr.{TypeErr}
use Rattle.hp_typing.specs.declared.error.TypeErr.TheVariants as type_error
use Rattle.hp_verdicts.specs.declared.error.ContractErr.{ContractErr}
use Rattle.hp_verdicts.specs.declared.error.ContractErr.TheVariants as contract

-- LINE:COL
abbrev pub place_text : Span → List ℕ
place_text at = decimal at.line ++ (codes ":" ++ decimal at.col)

-- where a limit is passed
abbrev pub where_text : Place → List ℕ
where_text Whole = codes "-"
where_text (At at) = place_text at

-- a type, or so many values
abbrev pub is_text : Is → List ℕ
is_text is.Bool = codes "bool"
is_text is.Int = codes "int"
is_text (is.Enum t) = t
is_text (is.Row n) = codes "row:" ++ decimal n

-- the code of a line and the place that it names
abbrev pub heading : List ℕ → Span → List ℕ
heading code at = code ++ (codes " " ++ (place_text at ++ codes " "))

-- the line of a name at its place, with a word for what is wrong
abbrev pub fault_text : List ℕ → Span → List ℕ → List ℕ → List ℕ
fault_text code at x word = heading code at ++ (x ++ (codes " " ++ (word ++ codes "\n")))

abbrev pub name_line : NameErr → List ℕ
name_line (name.Unknown x at) = fault_text (codes "E4") at x (codes "unknown")
name_line (name.Twice x at) = fault_text (codes "E4") at x (codes "twice")
name_line name.OutOfMemory = []

abbrev pub type_line : TypeErr → List ℕ
type_line (type_error.Wrong at wanted found) = fault_text (codes "E5") at (is_text wanted) (is_text found)
type_line (type_error.Undefined x at) = fault_text (codes "E6") at x (codes "undefined")
type_line (type_error.Twice x at) = fault_text (codes "E6") at x (codes "twice")
type_line (type_error.Branch x at) = fault_text (codes "E6") at x (codes "branch")
type_line type_error.OutOfMemory = []

-- what was found and the most that there may be
abbrev pub counts_text : ℕ → ℕ → List ℕ
counts_text found bound = decimal found ++ (codes " " ++ (decimal bound ++ codes "\n"))

-- where a limit is passed, its word, and the counts
abbrev pub passed_line : Place → What → ℕ → ℕ → List ℕ
passed_line place what found bound = codes "E3 " ++ (where_text place ++ (codes " " ++ (word what ++ (codes " " ++ counts_text found bound))))

abbrev pub limit_line : Place → Limit → List ℕ
limit_line place limit = passed_line place limit.what limit.found (most limit.what)

-- the word for a shape that is broken
abbrev pub shape_word : Shape → List ℕ
shape_word Call = codes "call"
shape_word Inline = codes "inline"
shape_word WrongType = codes "type"

-- what is wrong with a contract at a place in the node of the name
abbrev pub shape_line : List ℕ → Span → List ℕ → List ℕ
shape_line node at wrong = codes "E10 " ++ (node ++ (codes " " ++ (place_text at ++ (codes " " ++ (wrong ++ codes "\n")))))

-- a limit that the node of the name passes
abbrev pub count_line : List ℕ → Limit → List ℕ
count_line node limit = codes "E3 " ++ (node ++ (codes " " ++ (word limit.what ++ (codes " " ++ counts_text limit.found (most limit.what)))))

-- a shape that is broken at a place, or a limit that is passed, in the node of the name
abbrev pub expand_line : ExpandErr → List ℕ
expand_line (expand.Shape node at shape) = shape_line node at (shape_word shape)
expand_line (expand.Limit node limit) = count_line node limit
expand_line expand.OutOfMemory = []

-- a code, a node and a place in it
abbrev pub unit_line : List ℕ → List ℕ → Span → List ℕ
unit_line code node at = code ++ (node ++ (codes " " ++ (place_text at ++ codes "\n")))

abbrev pub clock_line : ClockErr → List ℕ
clock_line (clock.Clash node at) = unit_line (codes "E7 ") node at
clock_line (clock.Limit node limit) = count_line node limit
clock_line clock.OutOfMemory = []

abbrev pub init_line : InitErr → List ℕ
init_line (init.Late node at) = unit_line (codes "E8 ") node at
init_line init.OutOfMemory = []

-- the name that a variable has in the text: the part before the sign in the names of new variables
abbrev pub source_name : List ℕ → List ℕ
source_name [] = []
source_name (b ∷ x) = if nat_eq b 36 then [] else b ∷ source_name x

abbrev pub point_text : Point → List ℕ
point_text p = codes " " ++ (source_name p.name ++ (codes "@" ++ place_text p.span))

abbrev pub points_text : List Point → List ℕ
points_text [] = []
points_text (p ∷ points) = point_text p ++ points_text points

-- the points of a cycle
abbrev pub cause_line : CauseErr → List ℕ
cause_line (cause.Cycle node points) = codes "E9 " ++ (node ++ (points_text points.items ++ codes "\n"))
cause_line cause.OutOfMemory = []

-- A machine that is executed may have more on a chain of instances, and more instances, than a node of a program.
abbrev pub most_executed : What → ℕ
most_executed Calls = most_chained
most_executed what = most_instances

abbrev pub executor_line : Limit → List ℕ
executor_line limit = passed_line Whole limit.what limit.found (most_executed limit.what)

-- The line of a refusal; want of memory has none.
abbrev pub refusal_line : Refusal → List ℕ
refusal_line (refusal.Limit place limit) = limit_line place limit
refusal_line (refusal.Lex at) = codes "E1 " ++ (place_text at ++ codes "\n")
refusal_line (refusal.Parse at) = codes "E2 " ++ (place_text at ++ codes "\n")
refusal_line (refusal.Name e) = name_line e
refusal_line (refusal.Types e) = type_line e
refusal_line (refusal.Expand e) = expand_line e
refusal_line (refusal.Clocks e) = clock_line e
refusal_line (refusal.Init e) = init_line e
refusal_line (refusal.Cause e) = cause_line e
refusal_line refusal.OutOfMemory = []

-- a text has more bytes than it may have
abbrev pub too_long : What → Limit
too_long what = record { what = what; found = most what + 1 }

abbrev pub too_long_line : What → List ℕ
too_long_line what = limit_line Whole (too_long what)

-- what stands behind the line of a contract that is lost: its certificate, or that the text of one would be too long
abbrev pub behind_forced : Option (List ℕ) → List ℕ
behind_forced None = too_long_line Text
behind_forced (Some cert) = cert

-- that a violation is forced in the node of the name within so many instants, and behind the line the certificate of it
abbrev pub forced_line : List ℕ → ℕ → List ℕ → List ℕ
forced_line node instants cert = codes "E11 " ++ (node ++ (codes " " ++ (decimal instants ++ (codes "\n" ++ cert))))

-- The line of a contract that is refused. Want of memory has none, nor has the cause that is never answered.
abbrev pub contract_line : ContractErr → List ℕ
contract_line (contract.Assume node at) = shape_line node at (codes "assume")
contract_line (contract.Limit node limit) = count_line node limit
contract_line (contract.Forced node instants cert) = forced_line node instants (behind_forced (option_map (λ text. text.items) cert))
contract_line contract.TooLong = too_long_line Text
contract_line contract.NotBuilt = []
contract_line contract.OutOfMemory = []

-- a node without a contract, at the place of its name
abbrev pub no_contract_line : List ℕ → Span → List ℕ
no_contract_line node at = shape_line node at (codes "none")

-- what of a certificate is not that of the node, and the condition of it that fails
abbrev pub misfit_text : Misfit → List ℕ
misfit_text misfit.Node = codes "node"
misfit_text misfit.Vars = codes "vars"
misfit_text misfit.Count = codes "count"
misfit_text misfit.Scope = codes "scope"

abbrev pub condition_text : Cond → List ℕ
condition_text condition.Init = codes "init"
condition_text condition.Step = codes "step"
condition_text (condition.Rank k) = codes "rank " ++ decimal k

-- The line of a certificate that is refused, and the status; want of memory has none.
abbrev pub certificate_line : CertErr → List ℕ
certificate_line (certificate.Syntax at) = codes "K1 " ++ (place_text at ++ codes "\n")
certificate_line (certificate.Misfit m) = codes "K2 " ++ (misfit_text m ++ codes "\n")
certificate_line (certificate.Fails k) = codes "K3 " ++ (condition_text k ++ codes "\n")
certificate_line (certificate.Limit limit) = limit_line Whole limit
certificate_line certificate.OutOfMemory = []

abbrev pub certificate_status : CertErr → ℕ
certificate_status (certificate.Limit limit) = 1
certificate_status e = 7

-- a text of no machines, and machines without form
abbrev pub no_text_line : Span → List ℕ
no_text_line at = codes "O1 " ++ (place_text at ++ codes "\n")

abbrev pub no_form_line : Span → List ℕ
no_form_line at = codes "O2 " ++ (place_text at ++ codes "\n")

-- The line of a checkpoint that is refused.
abbrev pub checkpoint_line : MemErr → List ℕ
checkpoint_line (memory.Syntax at) = codes "M1 " ++ (place_text at ++ codes "\n")
checkpoint_line memory.Node = codes "M2 node\n"
checkpoint_line (memory.Count found) = codes "M2 count " ++ (decimal found ++ codes "\n")
checkpoint_line (memory.Word number) = codes "M2 value " ++ (decimal number ++ codes "\n")
