use Rattle.law_drawing.proofs.MirrorsLemmas.Carried.{early_is_right, carries, mirrors}
use Rattle.law_drawing.proofs.MirrorsLemmas.Reading.{reads_controls}
use Rattle.law_drawing.proofs.mirrors.drawn_nodes_are_mirrored.Goals as goal

pub returns-clause-reads : goal.returns-clause-reads
returns-clause-reads c = reads_controls

pub returns-clause-early : goal.returns-clause-early
returns-clause-early c = early_is_right

pub returns-clause-carries : goal.returns-clause-carries
returns-clause-carries c = carries c.drawn_nodes_are_solved.ensures

pub returns-clause-mirrors : goal.returns-clause-mirrors
returns-clause-mirrors c = mirrors c.drawn_nodes_are_solved.ensures
