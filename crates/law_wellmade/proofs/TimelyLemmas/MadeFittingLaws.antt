-- The clocked equations that are made of a node stand for flat names that fit.
use Rattle.hp_tree.specs.Meaning.{types_of}
use Rattle.law_equations.proofs.AnsweredLemmas.MadeFlatLaws.{made_flat_kept}
use Rattle.law_wellmade.specs.Timely.Kept.{IsRemembered}
use Rattle.law_wellmade.specs.Timely.Laws.{MadeFittingLaw}
use Rattle.law_wellmade.proofs.TimelyLemmas.KeptLaws.{keeps}
use Rattle.law_wellmade.proofs.TimelyLemmas.BeginLaws.{begins}
use Rattle.law_wellmade.proofs.TimelyLemmas.FittingLaws.{fitting}

pub made_fitting : MadeFittingLaw
made_fitting program class fills k ok ranked none apart fit distinct are_tested knows later earlier n flat is =
    let m = made_flat_kept (λ a. IsRemembered (types_of program) (fills n.name) n a) program fills k none apart knows later earlier n flat is (keeps (types_of program) (fills n.name) n is.ready.plain is.ready.outputs) in (
      m.0,
      m.1,
      λ inputs past kinds reaction.
          fitting program class fills later earlier n m.0 flat ok ranked none apart fit distinct are_tested m.1 m.2 (begins k (fills n.name) n is.ready) inputs past kinds reaction,
    )
