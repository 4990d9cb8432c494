-- What is proved of judged programs, together.
use Rattle.std.specs.Prelude.{true, Some}
use Rattle.std.proofs.Common.{◌≡◌, List, [], ◌∷◌, reverse, sym, subst, ◌∙◌}
use Rattle.hp_tree.specs.declared.program.Item.{Item}
use Rattle.hp_tree.specs.declared.program.Item.TheVariants.{TypeItem, NodeItem}
use Rattle.hp_tree.specs.Programs.{Node}
use Rattle.hp_tree.specs.Meaning.{types_of}
use Rattle.hp_meaning.proofs.CausalLemmas.Ranking.{all_ranks_enough}
use Rattle.law_judged.proofs.TypedLemmas.ProgramLaws.{typed}
use Rattle.hp_meaning.specs.Causal.Points.{NamesDeclared}
use Rattle.hp_meaning.specs.Clocking.Clocking.{NodeNamed}
use Rattle.hp_meaning.proofs.ClockingLemmas.Judging.{writes}
use Rattle.hp_clocks.specs.Writing.{AreWritten}
use Rattle.hp_clocks.specs.Answers.{IsClocked}
use Rattle.law_judged.specs.Named.Scoped.{NodeScoped, EachNode}
use Rattle.law_judged.proofs.NamedLemmas.Declared.{node_names}
use Rattle.law_judged.proofs.NamedLemmas.Judged.{scoped}
use Rattle.hp_expand.specs.Numbering.{no_node, replaced}
use Rattle.hp_expand.proofs.FormedLaws.{formed_law}
use Rattle.law_judged.proofs.PlainLemmas.CallsOfTexts.{few_calls}
use Rattle.law_judged.proofs.PlainLemmas.Spelled.{found_of, names_plain, merges_full, of_text}
use Rattle.law_values.proofs.AcceptedLemmas.Readable.{items_read}
use Rattle.law_judged.proofs.ReplacedLemmas.CallsFit.{calls_fit}
use Rattle.law_judged.proofs.ReplacedLemmas.Enough.{few_variables}
use Rattle.law_judged.proofs.ReplacedLemmas.Marks.{all_few_calls}
use Rattle.law_judged.proofs.ReplacedLemmas.JudgedReplaced.{all_can, judged_replaced}
use Rattle.law_judged.proofs.OnceLemmas.ReplacedNodes.{judged_once}
use Rattle.law_values.specs.Valued.Values.{Classing, AreAccepted}
use Rattle.law_values.proofs.ValuedLemmas.Programs.{real_values, filled_values}
use Rattle.law_values.specs.Accepted.Written.{AreClocked}
use Rattle.law_values.specs.Accepted.Laws.{SoundLaw, ReplacedSoundLaw, ClockedSoundLaw, ClassesLaw, ClocksFirstLaw, ClockedClassesLaw, PlainLaw, IsReady, ReadyTextLaw, AcceptedLaw, ReadyRealLaw, ReadyFilledLaw, OutputsHereLaw, ReadyOutputsLaw, FilledValueLaw, FirstValueLaw, NoStarLaw}
use Rattle.law_values.proofs.AcceptedLemmas.SoundNodes.{as_sound, judged_sound}
use Rattle.law_values.proofs.AcceptedLemmas.Definite.{node_classes}
use Rattle.law_values.proofs.AcceptedLemmas.ReplacesPrograms.{program_replaced}
use Rattle.law_values.proofs.AcceptedLemmas.ClocksKept.{node_clocked}
use Rattle.law_values.proofs.AcceptedLemmas.ClassesKept.{classes_kept}
use Rattle.law_values.proofs.AcceptedLemmas.ClocksFirst.{clocks_first}
use Rattle.law_values.proofs.AcceptedLemmas.PlainKept.{program_plain}
use Rattle.law_values.proofs.AcceptedLemmas.Outputs.{past_here, absent_or_of, first_value, never_star, frees_fit}
use Rattle.law_values.proofs.AcceptedLemmas.Assembled.{replaced_fresh, types_replaced, types_clocked, all_accepted}

pub sound : SoundLaw
sound program n t d m a = as_sound (types_of program) [] program (judged_sound program (scoped program n d) a n t (typed program n t m) d)

pub replaced_sound : ReplacedSoundLaw
replaced_sound program n t d l h m a p e =
    let types = typed program n t m in
    let names = scoped program n d in
    program_replaced (types_of program) program (judged_sound program names a n t types d)
    (all_can no_node program names p (calls_fit program n types) (all_few_calls no_node program e) (few_variables program l)) h a

pub clocked_sound : ClockedSoundLaw
clocked_sound types among s n at ok = node_clocked types among at n s ok

pub has_classes : ClassesLaw
has_classes n class sc once c h = node_classes n sc once class c h

pub clocked_classes : ClockedClassesLaw
clocked_classes n class at h s = classes_kept at n class (clocks_first n class at h.met s) h

pub names_first : ClocksFirstLaw
names_first n class at m s = clocks_first n class at m s

pub plain : PlainLaw
plain program p = program_plain program p

-- ---- programs that are ready

clocked_of : (xs ys : List Item) → AreWritten IsClocked xs ys → AreClocked xs ys
clocked_of [] [] w = tt
clocked_of [] (y ∷ ys) w = absurd w
clocked_of (x ∷ xs) [] w = absurd (none x xs w)
  where
    none : (x : Item) (xs : List Item) → AreWritten IsClocked (x ∷ xs) [] → ⊥
    none x xs w = w
clocked_of (TypeItem t ∷ xs) (y ∷ ys) w = (w.0, clocked_of xs ys w.1)
clocked_of (NodeItem n ∷ xs) (y ∷ ys) w = ((w.0.0, (w.0.1.0, w.0.2)), clocked_of xs ys w.1)

scoped_alone : (items : List Item) → EachNode (λ n. NodeScoped n × NodeNamed n × NamesDeclared n) items → EachNode NodeScoped items
scoped_alone [] h = tt
scoped_alone (TypeItem t ∷ items) h = scoped_alone items h
scoped_alone (NodeItem n ∷ items) h = (h.0.0, scoped_alone items h.1)

pub ready_text : ReadyTextLaw
ready_text text tokens program after a p n t d f i c =
    let formed = (formed_law program).1 f in
    let read = items_read 200 64 (Some 64) (Some 64) (Some 63) program (found_of text tokens program a.read p).0.0 in
    record {
      named = n;
      typed = t;
      defined = d;
      limits = formed.1;
      shapes = formed.0;
      merges = merges_full text tokens program a p;
      armed = read.0;
      names = names_plain program (of_text text tokens program a p);
      calls = few_calls text tokens program a p;
      plain = read.1;
      initialised = i;
      clocks = c;
    }

pub accepted : AcceptedLaw
accepted program after r =
    let types = typed program r.named r.typed r.merges in
    let names = scoped program r.named r.defined in
    let sound = judged_sound program names r.armed r.named r.typed types r.defined in
    let clocked = clocked_of (replaced program) after r.clocks in
    subst (λ z. (class : Classing) × AreAccepted z class (reverse after)) (sym (types_clocked (replaced program) after clocked ∙ types_replaced no_node program))
    (all_accepted (types_of program) (λ n at sc s. writes n at (node_names n sc).0 s.0) (replaced program) after (replaced_fresh (types_of program) no_node program sound) clocked
    (replaced_sound program r.named r.typed r.defined r.limits r.shapes r.merges r.armed r.names r.calls)
    (scoped_alone (replaced program) (judged_replaced program r.named r.typed r.defined r.limits r.merges r.names r.calls))
    (judged_once program r.named r.typed r.defined r.limits r.merges r.names r.calls) r.initialised (program_plain program r.plain))

pub ready_real : ReadyRealLaw
ready_real program after ranks r f =
    let a = accepted program after r in
    (a.0, λ g n inputs frees past e i h k. real_values after a.0 g n inputs frees past a.1 (all_ranks_enough after ranks f) e i h k)

pub ready_filled : ReadyFilledLaw
ready_filled program after ranks r f =
    let a = accepted program after r in
    (a.0, λ g n inputs frees past e i h k. filled_values after a.0 g n inputs frees past a.1 (all_ranks_enough after ranks f) e i h k)

-- ---- in the words of later passes

pub outputs_are_here : OutputsHereLaw
outputs_are_here types nils class items f n past e h = past_here types nils class items f n past e h

pub ready_outputs : ReadyOutputsLaw
ready_outputs program after ranks r fall u f n inputs frees past e i k =
    let a = accepted program after r in
    past_here (types_of after) true a.0 (reverse after) f n past e
    (real_values after a.0 f n inputs frees past a.1 (all_ranks_enough after ranks fall) e i (frees_fit (types_of after) after u f frees) k)

pub filled_value : FilledValueLaw
filled_value types there second t v h = absent_or_of types there second t v h

pub value_of_first : FirstValueLaw
value_of_first types there second nils t v f h = first_value types there second nils t v f h

pub no_star : NoStarLaw
no_star types there o nil v h e = never_star types there o nil v h e
