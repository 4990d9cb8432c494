-- What a breach that the code holds is seen as.
use Rattle.hp_base.specs.declared.span.Span.{Span}
use Rattle.hp_typing.specs.declared.breach.Fault.{Fault}
use Rattle.hp_typing.specs.declared.breach.Fault.TheVariants as fault
use Rattle.hp_typing.specs.declared.breach.Breach.TheInside.{Inside}
use Rattle.hp_typing.specs.Seen.{shape_seen, cons_seen}
use Rattle.hp_typing.specs.Breaches.{Breach, wrong, undefined, twice, branch, text_of}

abbrev pub fault_at : Span → Fault → Breach
fault_at at (fault.Wrong t u) = wrong at (shape_seen t) (shape_seen u)
fault_at at (fault.Undefined x) = undefined at x.now
fault_at at (fault.Twice x) = twice at x.now
fault_at at (fault.Branch x) = branch at x.now
fault_at at (fault.NotOnce c) = branch at (text_of (cons_seen c))

abbrev pub breach_seen : Inside → Breach
breach_seen b = fault_at b.at b.fault
