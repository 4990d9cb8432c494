-- A program that breaks no rule and of which no contract is refused is checked, compiled and run, where nothing fails and there is memory.
use Rattle.std.proofs.Common.{◌≡◌, ◌≢◌, ℕ, ◌⊎◌, inl, inr, Bool, true, false, List, [], ◌∷◌, ◌++◌, length, map, reverse, None, Some, refl, sym, ap, subst, ◌∙◌, arith, if◌then◌else◌}
use Rattle.std.specs.Prelude.{codes, Option, IsSome, option_map}
use Rattle.std.specs.Str.{bytes_eq}
use Rattle.std.proofs.lemmas.List.{append-nil, reverse-append}
use Rattle.hp_base.specs.Kinds.{KindData}
use Rattle.hp_base.specs.Limits.{most}
use Rattle.hp_base.specs.declared.limit.What.TheVariants.{Size}
use Rattle.hp_compile.specs.Arranged.{IsArrangeable, IsArranged}
use Rattle.hp_compile.specs.Judged.{IsJudged}
use Rattle.hp_clocks.specs.Answers.{IsClocked}
use Rattle.hp_clocks.specs.Writing.{AreWritten}
use Rattle.hp_expand.specs.Numbering.{with_node, no_node, replaced_node, replaced_items, replaced}
use Rattle.hp_io.specs.Files.{Files, Holds}
use Rattle.hp_io.specs.declared.console.Event.{Event}
use Rattle.hp_obc.specs.Machines.{Obc}
use Rattle.hp_tree.specs.Blocks.{Decl}
use Rattle.hp_tree.specs.Programs.{TypeDecl, Node}
use Rattle.hp_tree.specs.Meaning.{types_of, node_among}
use Rattle.hp_tree.specs.declared.program.Item.{Item}
use Rattle.hp_tree.specs.declared.program.Item.TheVariants.{TypeItem, NodeItem}
use Rattle.law_wellmade.specs.Timely.Kinds.{kind_of, kinds_of_decls}
use Rattle.hp_base.specs.declared.ty.Ty.{Ty}
use Rattle.hp_meaning.specs.Clocking.Clocking.{base_written}
use Rattle.law_decided.specs.Outcomes.{RefusesInGames}
use Rattle.hp_verdicts.specs.declared.error.ContractErr.{ContractErr}
use Rattle.hp_verdicts.specs.declared.error.ContractErr.TheVariants as contract
use Rattle.hp_driver.specs.Command.{IsRunOf, IsTellOf, IsExecOf, IsOverSource, IsOverContract, ReadsSource, IsOver}
use Rattle.hp_driver.specs.GoodCalls.{AreGoodContracts, IsGoodCheck, IsGoodCompile, IsGoodRun}
use Rattle.hp_driver.specs.Lines.{lines_of}
use Rattle.hp_driver.specs.Log.{heard, has_ended, HeardFrom}
use Rattle.hp_driver.specs.NodeKinds.{input_kinds}
use Rattle.hp_driver.specs.Controls.{has_controls}
use Rattle.hp_driver.specs.Outcome.{Outcome, Gives, GivesMoreThan, HasNoProgram, IsHeld, AreCompiled, IsAskedFor, AsksToRun}
use Rattle.hp_driver.specs.Systems.{System, inputs_of}
use Rattle.hp_driver.specs.Values.{first_bad}
use Rattle.hp_driver.specs.declared.trace_limits.BadLine.{BadLine}
use Rattle.hp_driver.proofs.Completeness.{same_text, no_bad_line}
use Rattle.hp_driver.proofs.GoodContracts.{none_refused}
use Rattle.hp_driver.proofs.HistoryLaws.{inputs_same}
use Rattle.hp_driver.proofs.WordLaws.{past_source, run_exec, run_compile, exec_compile, check_run, check_exec, same_words, check_source, run_source, compile_source, source_contract, tell_run, tell_check, tell_compile, check_runs, compile_runs, sweep_source}

-- ---- a file that holds such a program

module _ (held : Files) (file text : List ℕ) (program : List Item) (holds : Holds held file text) (judged : IsJudged text program) where
  -- the program is that of the text
  pub same_program : (x : List ℕ) (p : List Item) → x ≡ file → IsHeld (Some held) x p → program ≡ p
  same_program x p e h =
      let same : h.text ≡ text = same_text held file x text h.text e holds h.held in
      h.only program (subst (λ t. IsJudged t program) (sym same) judged)

  pub same_arranged : (x : List ℕ) (p : List Item) → x ≡ file → (h : IsHeld (Some held) x p) → IsArranged program h.clocked h.ranks
  same_arranged x p e h = let arranged = h.arranged in subst (λ q. IsArranged q h.clocked h.ranks) (sym (same_program x p e h)) arranged

  pub not_long : (x : List ℕ) → x ≡ file → GivesMoreThan (Some held) x (most Size) → ⊥
  not_long x e long =
      let same : long.0 ≡ text = same_text held file x text long.0 e holds long.1 in
      let tokens = judged.program_of.spelled in
      let within = tokens.size in
      let longer = long.2 in
      let count : length long.0 ≡ length text = ap length same in
      omega (arith, within, longer, count)

  pub has_program : (x other : List ℕ) → x ≡ file → Gives (Some held) x other → IsArrangeable program → HasNoProgram other → ⊥
  has_program x other e gives arrangeable none =
      let same : other ≡ text = same_text held file x text other e holds gives in
      none program (subst (λ t. IsJudged t program) (sym same) judged) arrangeable

-- ---- a call over all of its program

module _ (words : List (List ℕ)) (held : Files) (file text : List ℕ) (program : List Item) (only_file : (x : List ℕ) → IsOverSource words x → x ≡ file) (holds : Holds held file text) (judged : IsJudged text program)
    (arrangeable : IsArrangeable program) (contracts : AreGoodContracts program) (not_choosing : (x y : List ℕ) (p : List Item) → IsHeld (Some held) x p → AsksToRun words x y p → ⊥) where
  no_contract_refused : (x : List ℕ) (p : List Item) (cause : ContractErr) → IsOverSource words x → (h : IsHeld (Some held) x p) → cause ≢ contract.OutOfMemory → RefusesInGames h.clocked cause → ⊥
  no_contract_refused x p cause over h differs refuses =
      none_refused h.clocked (contracts h.clocked h.ranks (same_arranged held file text program holds judged x p (only_file x over) h)) cause refuses differs

  module _ (over : IsOverSource words file) (not_exec : (x y : List ℕ) → IsExecOf words x y → ⊥) (there : (x y : List ℕ) (p : List Item) → IsRunOf words x y ⊎ IsTellOf words x y → (h : IsHeld (Some held) x p) → node_among h.clocked y ≡ None → ⊥) where
    -- the call succeeds but for want of memory
    pub succeeds : (log : List Event) (line : List ℕ) (status : ℕ) →
        ((s : System) (bad_line : BadLine) → IsAskedFor words (Some held) s → first_bad (inputs_of s) 1 (lines_of (has_ended log) (heard log)) ≡ Some bad_line → ⊥) →
        Outcome words (Some held) log line status → (status ≡ 4 → ⊥) → (status ≡ 5 → ⊥) → (status ≡ 0) ⊎ (status ≡ 6)
    succeeds log line status good (Outcome.usage h) f g = absurd (h.0 file (IsOver.a_source (ReadsSource.of_program over)))
    succeeds log line status good (Outcome.unread h) f g = absurd (f refl)
    succeeds log line status good Outcome.no_memory f g = inr refl
    succeeds log line status good (Outcome.too_long {file = x} (ReadsSource.of_program reads) long) f g = absurd (not_long held file text program holds judged x (only_file x reads) long)
    succeeds log line status good (Outcome.too_long {file = x} (ReadsSource.of_contract {node = y} k) long) f g = absurd (source_contract words file x y over k)
    succeeds log line status good (Outcome.refused {file = x} other cause (ReadsSource.of_program reads) gives causes none) f g = absurd (has_program held file text program holds judged x other (only_file x reads) gives arrangeable none)
    succeeds log line status good (Outcome.refused {file = x} other cause (ReadsSource.of_contract {node = y} k) gives causes none) f g = absurd (source_contract words file x y over k)
    succeeds log line status good (Outcome.contract_refused {file = x} {program = p} cause reads source some differs refuses) f g = absurd (no_contract_refused x p cause reads source differs refuses)
    succeeds log line status good (Outcome.no_node_to_run {file = x} {name = y} {program = p} asks source kept none) f g = absurd (there x y p asks source none)
    succeeds log line status good (Outcome.chosen_too_large {file = x} {node = y} {name = z} limit compiled asks for passed) f g = absurd (not_choosing x y compiled.program compiled.held asks)
    succeeds log line status good (Outcome.accepted other c source kept) f g = inl refl
    succeeds log line status good (Outcome.accepted_in_part other out rest c source kept e) f g = absurd (g refl)
    succeeds log line status good (Outcome.no_node {file = x} {name = y} k source none) f g = absurd (source_contract words file x y over k)
    succeeds log line status good (Outcome.no_contract {file = x} {name = y} n k source named none) f g = absurd (source_contract words file x y over k)
    succeeds log line status good (Outcome.no_verdict {file = x} {name = y} cause k c differs refuses) f g = absurd (source_contract words file x y over k)
    succeeds log line status good (Outcome.long_proof {file = x} {name = y} p c has long) f g = absurd (source_contract words file x y over (IsOverContract.to_prove p))
    succeeds log line status good (Outcome.proved {file = x} {name = y} p c proof) f g = inl refl
    succeeds log line status good (Outcome.proof_not_written {file = x} {name = y} p c proof) f g = absurd (g refl)
    succeeds log line status good (Outcome.unread_certificate {file = x} {name = y} v c has) f g = absurd (f refl)
    succeeds log line status good (Outcome.long_certificate {file = x} {name = y} v c has long) f g = absurd (source_contract words file x y over (IsOverContract.to_verify v))
    succeeds log line status good (Outcome.verified {file = x} {name = y} other p v c gives shows) f g = inl refl
    succeeds log line status good (Outcome.verified_in_part {file = x} {name = y} other p out rest v c gives shows e) f g = absurd (g refl)
    succeeds log line status good (Outcome.certificate_refused {file = x} {name = y} other cause v c gives differs refuses) f g = absurd (source_contract words file x y over (IsOverContract.to_verify v))
    succeeds log line status good (Outcome.long_text {file = x} {node = y} v long) f g = absurd (not_exec x y v)
    succeeds log line status good (Outcome.no_text {file = x} {node = y} other at v gives r) f g = absurd (not_exec x y v)
    succeeds log line status good (Outcome.no_form {file = x} {node = y} other at v gives b) f g = absurd (not_exec x y v)
    succeeds log line status good (Outcome.no_machine {file = x} {node = y} v others none) f g = absurd (not_exec x y v)
    succeeds log line status good (Outcome.too_large {file = x} {node = y} limit v others passed) f g = absurd (not_exec x y v)
    succeeds log line status good (Outcome.compiled c compiled) f g = inl refl
    succeeds log line status good (Outcome.not_written c compiled) f g = absurd (g refl)
    succeeds log line status good (Outcome.past {file = x} {out = y} p r) f g = absurd (past_source words x y p file over)
    succeeds log line status good (Outcome.swept {tasks = t} {instants = i} other s is) f g = inl refl
    succeeds log line status good (Outcome.swept_in_part {tasks = t} {instants = i} other out rest s is e) f g = absurd (g refl)
    succeeds log line status good (Outcome.not_swept {tasks = t} {instants = i} s why) f g = absurd (sweep_source words t i s file over)
    succeeds log line status good (Outcome.done asked step has_end answer good_lines) f g = inl refl
    succeeds log line status good (Outcome.bad_line {s = s} bad_line asked step answer e) f g = absurd (good s bad_line asked e)
    succeeds log line status good (Outcome.take_failed asked step answer good_lines) f g = absurd (f refl)
    succeeds log line status good (Outcome.put_failed rest asked step answer) f g = absurd (g refl)
    succeeds log line status good (Outcome.line_failed told b rest r) f g = absurd (g refl)

-- ---- calls that run nothing

module _ (words : List (List ℕ)) (files : Option Files) (not_run : (x y : List ℕ) → IsRunOf words x y → ⊥) (not_tell : (x y : List ℕ) → IsTellOf words x y → ⊥) (not_exec : (x y : List ℕ) → IsExecOf words x y → ⊥) where
  not_asked : (x y : List ℕ) → IsRunOf words x y ⊎ IsTellOf words x y → ⊥
  not_asked x y (inl r) = not_run x y r
  not_asked x y (inr r) = not_tell x y r

  not_system : (s : System) → IsAskedFor words files s → ⊥
  not_system s (IsAskedFor.a_node {file = x} {node = y} n r compiled named found is) = not_run x y r
  not_system s (IsAskedFor.a_machine {file = x} {node = y} v others found) = not_exec x y v
  not_system s (IsAskedFor.a_contract {file = x} {node = y} n r compiled named some found is) = not_tell x y r
  not_system s (IsAskedFor.no_contract {file = x} {node = y} n r compiled named none found is) = not_tell x y r

module _ (words : List (List ℕ)) (files : Option Files) (log : List Event) (line : List ℕ) (status : ℕ) where
  pub good_check : IsGoodCheck words files → Outcome words files log line status → (status ≡ 4 → ⊥) → (status ≡ 5 → ⊥) → (status ≡ 0) ⊎ (status ≡ 6)
  good_check good r f g =
      let source = good.source in
      let w = good.asked in
      let not_run : (x y : List ℕ) → IsRunOf words x y → ⊥ = λ x y v. check_run words good.file x y good.print w v in
      let not_exec : (x y : List ℕ) → IsExecOf words x y → ⊥ = λ x y v. check_exec words good.file x y good.print w v in
      let not_tell : (x y : List ℕ) → IsTellOf words x y → ⊥ = λ x y v. tell_check words x y good.file good.file v good.print w in
      succeeds words source.held good.file source.text good.program (λ x over. check_source words good.file x good.print w over) (subst (λ z. Gives z good.file source.text) source.folder source.gives) source.judged
      source.arrangeable good.contracts (λ x y p h asks. check_runs words good.file x y good.print p w asks) (IsOverSource.to_check good.print w) not_exec (λ x y p asked h none. not_asked words (Some source.held) not_run not_tell not_exec x y asked) log line status
      (λ s bad_line asked e. not_system words (Some source.held) not_run not_tell not_exec s asked) (subst (λ z. Outcome words z log line status) source.folder r) f g

  pub good_compile : IsGoodCompile words files → Outcome words files log line status → (status ≡ 4 → ⊥) → (status ≡ 5 → ⊥) → (status ≡ 0) ⊎ (status ≡ 6)
  good_compile good r f g =
      let source = good.source in
      let w = good.asked in
      let not_run : (x y : List ℕ) → IsRunOf words x y → ⊥ = λ x y v. run_compile words x y good.file good.out v w in
      let not_exec : (x y : List ℕ) → IsExecOf words x y → ⊥ = λ x y v. exec_compile words x y good.file good.out v w in
      let not_tell : (x y : List ℕ) → IsTellOf words x y → ⊥ = λ x y v. tell_compile words x y good.file good.out v w in
      succeeds words source.held good.file source.text good.program (λ x over. compile_source words good.file good.out x w over) (subst (λ z. Gives z good.file source.text) source.folder source.gives) source.judged
      source.arrangeable good.contracts (λ x y p h asks. compile_runs words good.file good.out x y p w asks) (IsOverSource.to_compile w) not_exec (λ x y p asked h none. not_asked words (Some source.held) not_run not_tell not_exec x y asked) log line status
      (λ s bad_line asked e. not_system words (Some source.held) not_run not_tell not_exec s asked) (subst (λ z. Outcome words z log line status) source.folder r) f g

-- ---- the inputs of nodes

-- the types of declarations
abbrev types_in : List Decl → List Ty
types_in [] = []
types_in (d ∷ ds) = d.ty ∷ types_in ds

-- the name of each node with the types of its inputs
abbrev headers : List Item → List (List ℕ × List Ty)
headers [] = []
headers (TypeItem t ∷ items) = headers items
headers (NodeItem n ∷ items) = (n.name, types_in n.inputs) ∷ headers items

abbrev inputs_in : List (List ℕ × List Ty) → List ℕ → Option (List Ty)
inputs_in [] f = None
inputs_in (h ∷ hs) f = if bytes_eq h.0 f then Some h.1 else inputs_in hs f

inputs_among : (items : List Item) (f : List ℕ) → option_map (λ (n : Node). types_in n.inputs) (node_among items f) ≡ inputs_in (headers items) f
inputs_among [] f = refl
inputs_among (TypeItem t ∷ items) f = inputs_among items f
inputs_among (NodeItem n ∷ items) f = by (bytes_eq n.name f) (inputs_among items f)
  where
    by : (b : Bool) → option_map (λ (m : Node). types_in m.inputs) (node_among items f) ≡ inputs_in (headers items) f → option_map (λ (m : Node). types_in m.inputs) (if b then Some n else node_among items f) ≡ (if b then Some (types_in n.inputs) else inputs_in (headers items) f)
    by true rest = refl
    by false rest = rest

headers_append : (xs ys : List Item) → headers (xs ++ ys) ≡ headers xs ++ headers ys
headers_append [] ys = refl
headers_append (TypeItem t ∷ xs) ys = headers_append xs ys
headers_append (NodeItem n ∷ xs) ys = ap (λ hs. (n.name, types_in n.inputs) ∷ hs) (headers_append xs ys)

headers_reverse : (xs : List Item) → headers (reverse xs) ≡ reverse (headers xs)
headers_reverse [] = refl
headers_reverse (TypeItem t ∷ xs) = ap headers (reverse-append (TypeItem t ∷ []) xs) ∙ headers_append (reverse xs) (TypeItem t ∷ []) ∙ append-nil (headers (reverse xs)) ∙ headers_reverse xs
headers_reverse (NodeItem n ∷ xs) =
    ap headers (reverse-append (NodeItem n ∷ []) xs) ∙ headers_append (reverse xs) (NodeItem n ∷ []) ∙ ap (λ hs. hs ++ (n.name, types_in n.inputs) ∷ []) (headers_reverse xs)
    ∙ sym (reverse-append ((n.name, types_in n.inputs) ∷ []) (headers xs))

-- replacing inlined calls, and writing clocks, keep them, and the types of the program
headers_replaced : (nodes : List ℕ → Node) (items : List Item) → headers (replaced_items nodes items) ≡ headers items
headers_replaced nodes [] = refl
headers_replaced nodes (TypeItem t ∷ items) = headers_replaced nodes items
headers_replaced nodes (NodeItem n ∷ items) = ap (λ hs. (n.name, types_in n.inputs) ∷ hs) (headers_replaced (with_node nodes (replaced_node nodes n)) items)

types_replaced : (nodes : List ℕ → Node) (items : List Item) → types_of (replaced_items nodes items) ≡ types_of items
types_replaced nodes [] = refl
types_replaced nodes (TypeItem t ∷ items) = ap (λ ts. t ∷ ts) (types_replaced nodes items)
types_replaced nodes (NodeItem n ∷ items) = types_replaced (with_node nodes (replaced_node nodes n)) items

types_clocked : (ds : List Decl) → types_in (map base_written ds) ≡ types_in ds
types_clocked [] = refl
types_clocked (d ∷ ds) = ap (λ ts. d.ty ∷ ts) (types_clocked ds)

headers_written : (xs ys : List Item) → AreWritten IsClocked xs ys → headers ys ≡ headers xs
headers_written [] [] w = refl
headers_written [] (y ∷ ys) w = absurd w
headers_written (TypeItem t ∷ xs) [] w = absurd w
headers_written (NodeItem n ∷ xs) [] w = absurd w
headers_written (TypeItem t ∷ xs) (y ∷ ys) w = ap (λ z. headers (z ∷ ys)) w.0 ∙ headers_written xs ys w.1
headers_written (NodeItem n ∷ xs) (y ∷ ys) w =
    ap (λ z. headers (z ∷ ys)) w.0.2 ∙ (λ i. (n.name, types_clocked n.inputs i) ∷ headers_written xs ys w.1 i)

types_written : (xs ys : List Item) → AreWritten IsClocked xs ys → types_of ys ≡ types_of xs
types_written [] [] w = refl
types_written [] (y ∷ ys) w = absurd w
types_written (TypeItem t ∷ xs) [] w = absurd w
types_written (NodeItem n ∷ xs) [] w = absurd w
types_written (TypeItem t ∷ xs) (y ∷ ys) w = ap (λ z. types_of (z ∷ ys)) w.0 ∙ ap (λ ts. t ∷ ts) (types_written xs ys w.1)
types_written (NodeItem n ∷ xs) (y ∷ ys) w = ap (λ z. types_of (z ∷ ys)) w.0.2 ∙ types_written xs ys w.1

abbrev kinds_from : List TypeDecl → Option (List Ty) → List KindData
kinds_from types o = elim o [ None ↦ [] | Some ts ↦ map (kind_of types) ts ]

kinds_by : (types : List TypeDecl) (o : Option Node) → elim o [ None ↦ [] | Some n ↦ kinds_of_decls types n.inputs ] ≡ kinds_from types (option_map (λ (n : Node). types_in n.inputs) o)
kinds_by types None = refl
kinds_by types (Some n) = kinds_of n.inputs
  where
    kinds_of : (ds : List Decl) → kinds_of_decls types ds ≡ map (kind_of types) (types_in ds)
    kinds_of [] = refl
    kinds_of (d ∷ ds) = ap (λ ks. kind_of types d.ty ∷ ks) (kinds_of ds)

kinds_are : (items : List Item) (f : List ℕ) → input_kinds items f ≡ kinds_from (types_of items) (inputs_in (reverse (headers items)) f)
kinds_are items f =
    kinds_by (types_of items) (node_among (reverse items) f) ∙ ap (kinds_from (types_of items)) (inputs_among (reverse items) f ∙ ap (λ hs. inputs_in hs f) (headers_reverse items))

module _ (program clocked : List Item) (w : AreWritten IsClocked (replaced program) clocked) where
  same_headers : headers clocked ≡ headers program
  same_headers = headers_written (replaced program) clocked w ∙ headers_replaced no_node program

  same_kinds : (f : List ℕ) → input_kinds clocked f ≡ input_kinds program f
  same_kinds f =
      kinds_are clocked f
      ∙ (λ i. kinds_from ((types_written (replaced program) clocked w ∙ types_replaced no_node program) i) (inputs_in (reverse (same_headers i)) f))
      ∙ sym (kinds_are program f)

-- ---- the machine of a node is there

abbrev none_in : (hs : List (List ℕ × List Ty)) (f : List ℕ) → Type 0
none_in hs f = inputs_in hs f ≡ None

none_behind : (hs ks : List (List ℕ × List Ty)) (f : List ℕ) → none_in hs f → none_in ks f → none_in (hs ++ ks) f
none_behind [] ks f h k = k
none_behind (x ∷ hs) ks f h k = by (bytes_eq x.0 f) h (λ e. none_behind hs ks f e k)
  where
    by : (b : Bool) → (if b then Some x.1 else inputs_in hs f) ≡ None → (none_in hs f → none_in (hs ++ ks) f) → (if b then Some x.1 else inputs_in (hs ++ ks) f) ≡ None
    by true e rest = absurd cc
    by false e rest = rest e

none_reverse : (hs : List (List ℕ × List Ty)) (f : List ℕ) → none_in hs f → none_in (reverse hs) f
none_reverse [] f h = refl
none_reverse (x ∷ hs) f h = by (bytes_eq x.0 f) refl h (λ k. none_reverse hs f k)
  where
    by : (b : Bool) → bytes_eq x.0 f ≡ b → (if b then Some x.1 else inputs_in hs f) ≡ None → (none_in hs f → none_in (reverse hs) f) → none_in (reverse (x ∷ hs)) f
    by true e k rest = absurd cc
    by false e k rest =
        subst (λ zs. none_in zs f) (sym (reverse-append (x ∷ []) hs))
        (none_behind (reverse hs) (x ∷ []) f (rest k) (ap (λ d. if d then Some x.1 else None) e))

no_inputs : (o : Option Node) → option_map (λ (n : Node). types_in n.inputs) o ≡ None → IsSome o → ⊥
no_inputs None e h = absurd cc
no_inputs (Some n) e h = absurd cc

-- ---- calls that run a node

module _ (words : List (List ℕ)) (held : Files) (file node text : List ℕ) (program : List Item) (w : IsRunOf words file node) (holds : Holds held file text) (judged : IsJudged text program)
    (arrangeable : IsArrangeable program) (contracts : AreGoodContracts program) (uncontrolled : has_controls program ≡ false) (there : IsSome (node_among (reverse program) node)) where
  only_file : (x : List ℕ) → IsOverSource words x → x ≡ file
  only_file x over = run_source words file node x w over

  not_exec : (x y : List ℕ) → IsExecOf words x y → ⊥
  not_exec x y v = run_exec words file node x y w v

  -- nothing is chosen
  chooses : (x y : List ℕ) (p : List Item) → IsHeld (Some held) x p → AsksToRun words x y p → ⊥
  chooses x y p h (AsksToRun.to_run r some) =
      let same = same_program held file text program holds judged x p (only_file x (IsOverSource.to_run r)) h in
      let both : false ≡ true = sym uncontrolled ∙ ap has_controls same ∙ some in cc
  chooses x y p h (AsksToRun.to_tell r) = tell_run words x y file node r w

  clocks_of : (x : List ℕ) (p : List Item) → IsOverSource words x → (h : IsHeld (Some held) x p) → AreWritten IsClocked (replaced program) h.clocked
  clocks_of x p over h =
      let arranged = same_arranged held file text program holds judged x p (only_file x over) h in
      arranged.clocks

  node_there : (x y : List ℕ) (p : List Item) → IsRunOf words x y ⊎ IsTellOf words x y → (h : IsHeld (Some held) x p) → node_among h.clocked y ≡ None → ⊥
  node_there x y p (inr r) h none = tell_run words x y file node r w
  node_there x y p (inl r) h none =
      let clocks = clocks_of x p (IsOverSource.to_run r) h in
      let name = (same_words (codes "run") words file node x y w r).1 in
      let away : none_in (headers h.clocked) y = sym (inputs_among h.clocked y) ∙ ap (λ found. option_map (λ (n : Node). types_in n.inputs) found) none in
      let back = none_reverse (headers program) y (subst (λ hs. none_in hs y) (same_headers program h.clocked clocks) away) in
      let found : option_map (λ (n : Node). types_in n.inputs) (node_among (reverse program) y) ≡ None = inputs_among (reverse program) y ∙ ap (λ hs. inputs_in hs y) (headers_reverse program) ∙ back in
      no_inputs (node_among (reverse program) y) found (subst (λ z. IsSome (node_among (reverse program) z)) (sym name) there)

  system_kinds : (s : System) → IsAskedFor words (Some held) s → inputs_of s ≡ input_kinds program node
  system_kinds s (IsAskedFor.a_machine {file = x} {node = y} v others found) = absurd (not_exec x y v)
  system_kinds s (IsAskedFor.a_contract {file = x} {node = y} n r compiled named some found is) = absurd (tell_run words x y file node r w)
  system_kinds s (IsAskedFor.no_contract {file = x} {node = y} n r compiled named none found is) = absurd (tell_run words x y file node r w)
  system_kinds s (IsAskedFor.a_node {file = x} {node = y} {o = o} n r compiled named found is) =
      let same = same_program held file text program holds judged x compiled.program (only_file x (IsOverSource.to_run r)) compiled.held in
      let plain = compiled.are.plain (sym (ap has_controls same) ∙ uncontrolled) in
      let runs = plain.runs y n named in
      inputs_same compiled.held.clocked o y runs.0 runs.1 runs.2
      ∙ same_kinds program compiled.held.clocked (clocks_of x compiled.program (IsOverSource.to_run r) compiled.held) y ∙ ap (input_kinds program) (same_words (codes "run") words file node x y w r).1

  run_succeeds : (log : List Event) (line : List ℕ) (status : ℕ) (more : List ℕ) → (has_ended log ≡ true → more ≡ []) → first_bad (input_kinds program node) 1 (lines_of true (heard log ++ more)) ≡ None →
      Outcome words (Some held) log line status → (status ≡ 4 → ⊥) → (status ≡ 5 → ⊥) → (status ≡ 0) ⊎ (status ≡ 6)
  run_succeeds log line status more ended good r f g =
      succeeds words held file text program only_file holds judged arrangeable contracts chooses (IsOverSource.to_run w) not_exec node_there log line status
      (λ s bad_line asked e. no_bad_line (input_kinds program node) (has_ended log) (heard log) more bad_line ended good (ap (λ ks. first_bad ks 1 (lines_of (has_ended log) (heard log))) (sym (system_kinds s asked)) ∙ e)) r f g

  -- the input in two parts: what was heard, and what is left
  run_by : (input : List ℕ) (after : Option (List ℕ)) (log : List Event) (line : List ℕ) (status : ℕ) → first_bad (input_kinds program node) 1 (lines_of true input) ≡ None → HeardFrom (Some input) after log →
      Outcome words (Some held) log line status → (status ≡ 4 → ⊥) → (status ≡ 5 → ⊥) → (status ≡ 0) ⊎ (status ≡ 6)
  run_by input None log line status good h r f g = absurd (let lost = h.0 in cc)
  run_by input (Some rest) log line status good h r f g =
      let split : input ≡ heard log ++ rest = (let lost = h.0 in cc) in
      run_succeeds log line status rest h.1 (subst (λ z. first_bad (input_kinds program node) 1 (lines_of true z) ≡ None) split good) r f g

pub good_run : (words : List (List ℕ)) (files : Option Files) (left after : Option (List ℕ)) (log : List Event) (line : List ℕ) (status : ℕ) → IsGoodRun words files left → HeardFrom left after log →
    Outcome words files log line status → (status ≡ 4 → ⊥) → (status ≡ 5 → ⊥) → (status ≡ 0) ⊎ (status ≡ 6)
good_run words files left after log line status good h r f g =
    let source = good.source in
    run_by words source.held good.file good.node source.text good.program good.asked (subst (λ z. Gives z good.file source.text) source.folder source.gives) source.judged source.arrangeable good.contracts good.uncontrolled good.there
    good.input after log line status good.lines (subst (λ z. HeardFrom z after log) good.console h) (subst (λ z. Outcome words z log line status) source.folder r) f g

-- what is run takes what the node takes
pub good_kinds : (words : List (List ℕ)) (files : Option Files) (left : Option (List ℕ)) (good : IsGoodRun words files left) (s : System) → IsAskedFor words files s → inputs_of s ≡ input_kinds good.program good.node
good_kinds words files left good s asked =
    let source = good.source in
    system_kinds words source.held good.file good.node source.text good.program good.asked (subst (λ z. Gives z good.file source.text) source.folder source.gives) source.judged source.arrangeable good.contracts good.uncontrolled good.there
    s (subst (λ z. IsAskedFor words z s) source.folder asked)

-- so no line that is heard of its input has a fault
pub good_lines : (kinds : List KindData) (input : List ℕ) (left after : Option (List ℕ)) (log : List Event) (bad_line : BadLine) → left ≡ Some input → first_bad kinds 1 (lines_of true input) ≡ None → HeardFrom left after log →
    first_bad kinds 1 (lines_of (has_ended log) (heard log)) ≡ Some bad_line → ⊥
good_lines kinds input left after log bad_line console good h e = by after (subst (λ z. HeardFrom z after log) console h)
  where
    by : (rest : Option (List ℕ)) → HeardFrom (Some input) rest log → ⊥
    by None k = let lost = k.0 in cc
    by (Some rest) k =
        let split : input ≡ heard log ++ rest = (let lost = k.0 in cc) in
        no_bad_line kinds (has_ended log) (heard log) rest bad_line k.1 (subst (λ z. first_bad kinds 1 (lines_of true z) ≡ None) split good) e
