-- A run that `save` stops and `resume` resumes is one run.
use Rattle.std.proofs.Common.{◌≡◌, ℕ, ◌≤◌, Bool, true, false, cond, List, [], ◌∷◌, ◌++◌, length, length-append, None, Some, refl, sym, ap, ap₂, subst, ◌∙◌, inl, inr, arith}
use Rattle.std.specs.Prelude.{Option}
use Rattle.std.specs.FinMap as map
use Rattle.std.proofs.lemmas.Cmp.{nat_list_cmp_total}
use Rattle.std.proofs.lemmas.Slice.Eq.{bytes_eq-Decides}
use Rattle.hp_clocks.specs.Answers.{IsClocked}
use Rattle.hp_clocks.specs.Writing.{AreWritten}
use Rattle.hp_compile.proofs.FormLaws.{formed}
use Rattle.hp_compile.specs.Arranged.{HasClocks}
use Rattle.hp_compile.specs.Judged.{IsJudged}
use Rattle.hp_expand.specs.Numbering.{replaced}
use Rattle.hp_io.specs.Files.{Files}
use Rattle.hp_io.specs.declared.console.Event.{Event}
use Rattle.hp_io.proofs.Placed.{tied}
use Rattle.hp_controlled.specs.Chosen.{AreControlledMachines, IsChosen, own_heading}
use Rattle.hp_machines.specs.Machined.{Heading, heading_of_machine}
use Rattle.hp_meaning.specs.Clocking.Clocking.{node_with_clocks}
use Rattle.hp_meaning.specs.Clocking.Laws.{OneShortestLaw}
use Rattle.hp_obc.specs.Form.{HasObcForm}
use Rattle.hp_obc.specs.Machines.{Obc}
use Rattle.hp_obc.specs.Steps.{Memory, machine_behaviour}
use Rattle.hp_tree.specs.Meaning.{node_among}
use Rattle.hp_tree.specs.Programs.{Node}
use Rattle.hp_tree.specs.declared.program.Item.{Item}
use Rattle.hp_tree.specs.declared.program.Item.TheVariants.{TypeItem, NodeItem}
use Rattle.law_controlled.specs.One.{AreOne, OneTextListLaw}
use Rattle.hp_driver.specs.Answers.{IsAnswer}
use Rattle.hp_driver.specs.Checkpoints.{IsCheckpointOf, IsTaken, memory_behind}
use Rattle.hp_driver.specs.Given.{Gives}
use Rattle.hp_driver.specs.Joined.{AreGoodLines, ContinuedLaw, IsContinued, IsOneRun, LeftLaw, ResumedLaw, TakenAgainLaw, memory_past}
use Rattle.hp_driver.specs.Lines.{lines_of}
use Rattle.hp_driver.specs.Log.{heard, said}
use Rattle.hp_driver.specs.Outcome.{AreCompiled, IsHeld}
use Rattle.hp_driver.specs.Segments.{AreRun, Begins, IsRunnable, SegmentRun, Traced, memory_after}
use Rattle.hp_driver.specs.Systems.{System, of_machine, from_memory, inputs_of}
use Rattle.hp_driver.specs.Values.{first_bad, inputs_until}
use Rattle.hp_driver.specs.WrittenText.{WritesText}
use Rattle.hp_driver.proofs.AlikeLaws.{answer_moved, checkpoint_back, checkpoint_moved, good_moved, memory_moved}
use Rattle.hp_driver.proofs.JoinedLaws.{good_joined, inputs_joined, joined_run, memory_both}
use Rattle.hp_driver.proofs.SegmentCalls.{one_memory}

-- ---- one program with its clocks

same_clocked : OneShortestLaw → (xs ys zs : List Item) → AreWritten IsClocked xs ys → AreWritten IsClocked xs zs → ys ≡ zs
same_clocked one [] [] [] h k = refl
same_clocked one [] [] (z ∷ zs) h k = absurd k
same_clocked one [] (y ∷ ys) zs h k = absurd h
same_clocked one (x ∷ xs) [] zs h k = absurd h
same_clocked one (x ∷ xs) (y ∷ ys) [] h k = absurd k
same_clocked one (TypeItem t ∷ xs) (y ∷ ys) (z ∷ zs) h k = ap₂ (λ (w : Item) ws. w ∷ ws) (h.0 ∙ sym k.0) (same_clocked one xs ys zs h.1 k.1)
same_clocked one (NodeItem n ∷ xs) (y ∷ ys) (z ∷ zs) h k =
    let clocks = one n h.0.0 k.0.0 h.0.1.0 k.0.1.0 in
    ap₂ (λ (w : Item) ws. w ∷ ws) (h.0.2 ∙ ap (λ at. NodeItem (node_with_clocks at n)) clocks ∙ sym k.0.2) (same_clocked one xs ys zs h.1 k.1)

some_same : {A : Type 0} (x y : A) → Some x ≡ Some y → x ≡ y
some_same x y e = cc

no_some : {A X : Type 0} (x : A) → None ≡ Some x → X
no_some x e = absurd (cc)

-- what is inserted is held
pub get_inserted : (files : Files) (name text : List ℕ) → map.get (map.insert files name text) name ≡ Some text
get_inserted files name text =
    map.get-insert nat_list_cmp_total files name text name ∙ ap (λ (b : Bool). cond b (Some text) (map.get files name)) (tied name name true ((bytes_eq-Decides name name).1 refl))

-- ---- what a call resumed

-- what the second call did with machines, and which checkpoint it left
record Resumes (node : List ℕ) (text next : List ℕ) (second : List Event) (o : Obc) : Type 0 where
  kept : Memory
  is : IsCheckpointOf o node kept text
  answer : IsAnswer (from_memory o node kept) (lines_of true (heard second)) (said second)
  good : first_bad (inputs_of (of_machine o node)) 1 (lines_of true (heard second)) ≡ None
  leaves : IsCheckpointOf o node (memory_past o node kept (lines_of true (heard second))) next

-- ---- two calls

module _ (file node : List ℕ) (before found : Files) (source : map.get found file ≡ map.get before file) where
  same_program : (p q : List Item) → IsHeld (Some before) file p → IsHeld (Some found) file q → p ≡ q
  same_program p q h k =
      let same : k.text ≡ h.text = some_same k.text h.text (sym k.held ∙ source ∙ h.held) in
      sym (h.only q (subst (λ t. IsJudged t q) same k.judged))

  same_arranged : OneShortestLaw → (p q : List Item) (h : IsHeld (Some before) file p) (k : IsHeld (Some found) file q) → h.clocked ≡ k.clocked
  same_arranged one p q h k =
      let same = same_program p q h k in
      let clocks : HasClocks (replaced q) k.clocked = k.arranged.clocks in
      same_clocked one (replaced p) h.clocked k.clocked h.arranged.clocks (subst (λ z. HasClocks (replaced z) k.clocked) (sym same) clocks)

  -- what a call resumed with machines of the program, the machines of the other call resume
  module _ (shortest : OneShortestLaw) (choosing : OneTextListLaw) (text next : List ℕ) (second : List Event) where
    module _ (o p : Obc) (a : AreCompiled (Some before) file o) (b : AreCompiled (Some found) file p) (n k : Node) (named : node_among a.held.clocked node ≡ Some n) (its_name : node_among b.held.clocked node ≡ Some k) (is : IsChosen node o n)
        (its : IsChosen node p k) where
      -- two lists of machines of a program are one
      chosen_one : AreOne o p
      chosen_one =
          let j = a.held.judged in
          let arranged = a.held.arranged in
          choosing a.held.text j.program_of.tokens a.program a.held.clocked a.held.ranks o p j.program_of.spelled j.program_of.read j.named j.typed j.defined (formed a.held.text a.program j arranged.well_formed) arranged.initialised arranged.clocks arranged.ordered a.are.machines
          (subst (λ items. AreControlledMachines items p) (sym (same_arranged shortest a.program b.program a.held b.held)) b.are.machines)

      headed : heading_of_machine is.machine ≡ heading_of_machine its.machine
      headed =
          let clocked = same_arranged shortest a.program b.program a.held b.held in
          let nodes : n ≡ k = some_same n k (sym named ∙ ap (λ (items : List Item). node_among items node) clocked ∙ its_name) in
          is.headed ∙ ap own_heading nodes ∙ sym its.headed

      abbrev inputs : is.machine.inputs ≡ its.machine.inputs
      inputs = ap (λ (h : Heading). h.inputs) headed

      abbrev outputs : is.machine.outputs ≡ its.machine.outputs
      outputs = ap (λ (h : Heading). h.outputs) headed

      chosen_moved : HasObcForm o.types o.machines → Resumes node text next second p → Resumes node text next second o
      chosen_moved form r =
          let there = checkpoint_moved o p node is.machine its.machine form chosen_one is.named its.named inputs outputs r.kept text r.is in
          let lines = lines_of true (heard second) in
          record {
            kept = r.kept;
            is = there;
            answer = answer_moved o p node is.machine its.machine form chosen_one is.named its.named inputs outputs r.kept there.kinded lines (said second) r.answer;
            good = good_moved o p node is.machine its.machine form chosen_one is.named its.named inputs outputs lines r.good;
            leaves =
                subst (λ memory. IsCheckpointOf o node memory next) (memory_moved o p node is.machine its.machine form chosen_one is.named its.named inputs outputs r.kept there.kinded lines)
                (checkpoint_moved o p node is.machine its.machine form chosen_one is.named its.named inputs outputs (memory_past p node r.kept lines) next r.leaves);
          }

      chosen_taken : HasObcForm o.types o.machines → (memory : Memory) → IsCheckpointOf o node memory text → IsCheckpointOf p node memory text
      chosen_taken form memory = checkpoint_back o p node is.machine its.machine form chosen_one is.named its.named inputs outputs memory text

    moved : (o p : Obc) (s z : System) → HasObcForm o.types o.machines → AreRun (Some before) file node o s → AreRun (Some found) file node p z → Resumes node text next second p → Resumes node text next second o
    moved o p s z form (AreRun.own n a named is) (AreRun.own k b its_name its) r = chosen_moved o p a b n k named its_name is its form r

    taken_again : (o p : Obc) (s z : System) → HasObcForm o.types o.machines → AreRun (Some before) file node o s → AreRun (Some found) file node p z → (memory : Memory) → IsCheckpointOf o node memory text → IsCheckpointOf p node memory text
    taken_again o p s z form (AreRun.own n a named is) (AreRun.own k b its_name its) memory it = chosen_taken o p a b n k named its_name is its form memory it

-- ---- what each call did

begun : (files : Option Files) (file node : List ℕ) (from : Option (List ℕ)) (o : Obc) (kept : Memory) (s : System) → Begins files file node o from kept s → from ≡ None
    → (there : IsRunnable files file node o) × (kept ≡ (machine_behaviour o node).reset) × (s ≡ there.system)
begun files file node from o kept s (Begins.from_reset there) e = (there, refl, refl)
begun files file node from o kept s (Begins.from_checkpoint {mem = m} there gives is) e = no_some m (sym e)

-- from which memory it was resumed
record Restored (files : Option Files) (file node mem : List ℕ) (o : Obc) (kept : Memory) (s : System) : Type 0 where
  there : IsRunnable files file node o
  text : List ℕ
  gives : Gives files mem text
  is : IsCheckpointOf o node kept text
  system : s ≡ from_memory o node kept

restored : (files : Option Files) (file node mem : List ℕ) (from : Option (List ℕ)) (o : Obc) (kept : Memory) (s : System) → Begins files file node o from kept s → from ≡ Some mem → Restored files file node mem o kept s
restored files file node mem from o kept s (Begins.from_reset there) e = no_some mem e
restored files file node mem from o kept s (Begins.from_checkpoint {mem = m} {text = t} there gives is) e =
    record { there = there; text = t; gives = subst (λ x. Gives files x t) (some_same m mem e) gives; is = is; system = refl }

abbrev Answered : System → List Event → Type 0
Answered s log = IsAnswer s (lines_of true (heard log)) (said log) × (first_bad (inputs_of s) 1 (lines_of true (heard log)) ≡ None)

answered : (s : System) (log : List Event) (line : List ℕ) (status : ℕ) → Traced s log line status → status ≡ 0 → Answered s log
answered s log line status (Traced.done step ended answer good) e = (answer, good)
answered s log line status (Traced.bad_line bad step answer at) e = absurd (omega (arith, e))
answered s log line status (Traced.take_failed step answer good) e = absurd (omega (arith, e))
answered s log line status (Traced.put_failed rest step answer) e = absurd (omega (arith, e))

written : (text out : List ℕ) (before : Files) (left : Option Files) (status : ℕ) → WritesText text out (Some before) left status → status ≡ 0 → left ≡ Some (map.insert before out text)
written text out before left status (WritesText.whole all) e = all
written text out before left status (WritesText.part (inl five) others this) e = absurd (omega (arith, e, five))
written text out before left status (WritesText.part (inr six) others this) e = absurd (omega (arith, e, six))

runnable : (files : Option Files) (file node : List ℕ) (from : Option (List ℕ)) (o : Obc) (kept : Memory) (s : System) → Begins files file node o from kept s → IsRunnable files file node o
runnable files file node from o kept s (Begins.from_reset there) = there
runnable files file node from o kept s (Begins.from_checkpoint there gives is) = there

pub taken : OneShortestLaw → OneTextListLaw → TakenAgainLaw
taken shortest choosing before found file node o p memory text source there again is =
    taken_again file node before found source shortest choosing text [] [] o p there.system again.system there.form there.are again.are memory is

-- ---- calls one after the other

-- what one run does that hears what such calls heard
record IsReached (before : Files) (file node : List ℕ) (left : Option Files) (mem : List ℕ) (lines : List (List ℕ)) (bytes : List ℕ) : Type 0 where
  o : Obc
  there : IsRunnable (Some before) file node o
  answer : IsAnswer there.system lines bytes
  good : first_bad (inputs_of (of_machine o node)) 1 lines ≡ None
  text : List ℕ
  is : IsCheckpointOf o node (memory_past o node (machine_behaviour o node).reset lines) text
  held : Files
  kept : left ≡ Some held
  holds : map.get held mem ≡ Some text

module _ (before : Files) (file node : List ℕ) where
  first_call : (left : Option Files) (mem : List ℕ) (log : List Event) (from : Option (List ℕ)) (line : List ℕ) (status : ℕ) → SegmentRun (Some before) left file node from mem log line status → from ≡ None → status ≡ 0
      → IsReached before file node left mem (lines_of true (heard log)) (said log)
  first_call left mem log from line status (SegmentRun.stopped stops fails same) e zero = absurd (fails zero)
  first_call left mem log from line status (SegmentRun.written {o = o} {memory = kept} {s = s} {text = text} begins traced is writes) e zero =
      let lines = lines_of true (heard log) in
      let b = begun (Some before) file node from o kept s begins e in
      let a : Answered b.0.system log = subst (λ z. Answered z log) b.2 (answered s log [] 0 traced refl) in
      record {
        o = o;
        there = b.0;
        answer = a.0;
        good = ap (λ ks. first_bad ks 1 lines) b.0.inputs ∙ a.1;
        text = text;
        is = subst (λ memory. IsCheckpointOf o node (memory_past o node memory lines) text) b.1 is;
        held = map.insert before mem text;
        kept = written text mem before left status writes zero;
        holds = get_inserted before mem text;
      }

  module _ (shortest : OneShortestLaw) (choosing : OneTextListLaw) where
    -- behind them one more call, which did this with the machines of that run
    module _ (left after : Option Files) (mem out : List ℕ) (lines : List (List ℕ)) (bytes : List ℕ) (log : List Event) (found : Files) (few : length (lines ++ lines_of true (heard log)) ≤ 1000000000)
        (c : IsReached before file node left mem lines bytes) (next : List ℕ) (r : Resumes node c.text next log c.o) (writes : after ≡ Some (map.insert found out next)) where
      abbrev more : List (List ℕ)
      more = lines_of true (heard log)

      abbrev past : Memory
      past = memory_past c.o node (machine_behaviour c.o node).reset lines

      memory : r.kept ≡ past
      memory = one_memory (Some before) file node c.o c.text r.kept past c.there r.is c.is

      both_good : AreGoodLines (inputs_of (of_machine c.o node)) lines more
      both_good = let all = few in record { few = subst (λ n. n ≤ 1000000000) (length-append lines more) all; first_good = c.good; second_good = r.good }

      memories : memory_past c.o node r.kept more ≡ memory_past c.o node (machine_behaviour c.o node).reset (lines ++ more)
      memories =
          let b = machine_behaviour c.o node in
          let ins = inputs_of (of_machine c.o node) in
          ap (λ k. memory_past c.o node k more) memory
          ∙ sym (memory_both b b.reset (inputs_until ins 1 lines) (inputs_until ins 1 more))
          ∙ ap (memory_behind b b.reset) (sym (inputs_joined ins lines more both_good))

      one_more : IsReached before file node after out (lines ++ more) (bytes ++ said log)
      one_more = record {
        o = c.o;
        there = c.there;
        answer =
            joined_run (Some before) file node c.o c.there.system lines more bytes (said log) c.there.are c.there.machine both_good c.answer
            (subst (λ kept. IsAnswer (from_memory c.o node kept) more (said log)) memory r.answer);
        good = good_joined (inputs_of (of_machine c.o node)) lines more both_good;
        text = next;
        is = subst (λ kept. IsCheckpointOf c.o node kept next) memories r.leaves;
        held = map.insert found out next;
        kept = writes;
        holds = get_inserted found out next;
      }

    next_call : (left after : Option Files) (mem out : List ℕ) (lines : List (List ℕ)) (bytes : List ℕ) (log : List Event) (found : Files) → length (lines ++ lines_of true (heard log)) ≤ 1000000000
        → IsReached before file node left mem lines bytes → map.get found file ≡ map.get before file → ((held : Files) → left ≡ Some held → map.get found mem ≡ map.get held mem)
        → (from : Option (List ℕ)) (line : List ℕ) (status : ℕ) → SegmentRun (Some found) after file node from out log line status → from ≡ Some mem → status ≡ 0
        → IsReached before file node after out (lines ++ lines_of true (heard log)) (bytes ++ said log)
    next_call left after mem out lines bytes log found few c source checkpoint from line status (SegmentRun.stopped stops fails same) e zero = absurd (fails zero)
    next_call left after mem out lines bytes log found few c source checkpoint from line status (SegmentRun.written {o = p} {memory = kept} {s = s} {text = next} begins traced is writes) e zero =
        let r = restored (Some found) file node mem from p kept s begins e in
        let gives : map.get found mem ≡ Some c.text = checkpoint c.held c.kept ∙ c.holds in
        let texts : r.text ≡ c.text = some_same r.text c.text (sym r.gives ∙ gives) in
        let a : Answered (from_memory p node kept) log = subst (λ z. Answered z log) r.system (answered s log [] 0 traced refl) in
        let its : Resumes node c.text next log p = record { kept = kept; is = subst (IsCheckpointOf p node kept) texts r.is; answer = a.0; good = a.1; leaves = is } in
        let ours = moved file node before found source shortest choosing c.text next log c.o p c.there.system r.there.system c.there.form c.there.are r.there.are its in
        one_more left after mem out lines bytes log found few c next ours (written next out found after status writes zero)

    reached : (left : Option Files) (mem : List ℕ) (lines : List (List ℕ)) (bytes : List ℕ) → IsContinued before file node left mem lines bytes → length lines ≤ 1000000000 → IsReached before file node left mem lines bytes
    reached left mem lines bytes (IsContinued.saved {log = log} run) few = first_call left mem log None [] 0 run refl refl
    reached left mem lines bytes (IsContinued.resumed {left = earlier} {mem = name} {lines = heard_before} {bytes = said_before} {log = log} found calls source checkpoint run) few =
        let all = length-append heard_before (lines_of true (heard log)) in
        let c = reached earlier name heard_before said_before calls (omega (arith, all, few)) in
        next_call earlier left name mem heard_before said_before log found few c source checkpoint (Some name) [] 0 run refl refl

    one_run : (left : Option Files) (mem : List ℕ) (lines : List (List ℕ)) (bytes : List ℕ) → IsReached before file node left mem lines bytes → IsOneRun before file node lines bytes
    one_run left mem lines bytes c = record { o = c.o; system = c.there.system; are = c.there.are; said = c.answer }

pub continued : OneShortestLaw → OneTextListLaw → ContinuedLaw
continued shortest choosing before file node left mem lines bytes calls few =
    one_run before file node shortest choosing left mem lines bytes (reached before file node shortest choosing left mem lines bytes calls few)

pub resumed : OneShortestLaw → OneTextListLaw → ResumedLaw
resumed shortest choosing file node mem out first second r few =
    let all = length-append (lines_of true (heard first)) (lines_of true (heard second)) in
    continued shortest choosing r.before file node r.after out (lines_of true (heard first) ++ lines_of true (heard second)) (said first ++ said second)
    (IsContinued.resumed r.found (IsContinued.saved r.saved) r.source r.checkpoint r.resumed) (omega (arith, all, few))

-- ---- what a call left

left_by : OneShortestLaw → OneTextListLaw → (file node out : List ℕ) (from : Option (List ℕ)) (log : List Event) (before left found : Files) (o : Obc) (line : List ℕ) (status : ℕ)
    → SegmentRun (Some before) (Some left) file node from out log line status → status ≡ 0 → map.get found file ≡ map.get before file → IsRunnable (Some found) file node o
    → (text : List ℕ) × (map.get left out ≡ Some text) × IsTaken o node text
left_by shortest choosing file node out from log before left found o line status (SegmentRun.stopped stops fails same) zero source there = absurd (fails zero)
left_by shortest choosing file node out from log before left found o line status (SegmentRun.written {o = p} {memory = kept} {s = s} {text = text} begins traced is writes) zero source there =
    let files : left ≡ map.insert before out text = some_same left (map.insert before out text) (written text out before (Some left) status writes zero) in
    let memory = memory_after p node kept log in (
      text,
      ap (λ (f : Files). map.get f out) files ∙ get_inserted before out text,
      (memory, taken shortest choosing before found file node p o memory text source (runnable (Some before) file node from p kept s begins) there is),
    )

pub left_is_taken : OneShortestLaw → OneTextListLaw → LeftLaw
left_is_taken shortest choosing file node out from log before left found o run source there = left_by shortest choosing file node out from log before left found o [] 0 run refl source there
