-- A part of a node in a control equation: where it is there, what it stores, and what is shown of it.
use Rattle.std.proofs.Common.{◌≡◌, Bool, true, false, ◌&&◌, ◌||◌, if◌then◌else◌, ◌∷◌, refl, sym, ap, ◌∙◌}
use Rattle.hp_tree.specs.Instant.{Step, Instant, part, nothing, Place as TreePlace}
use Rattle.hp_base.specs.declared.value.Value.TheVariants.{Absent}
use Rattle.hp_meaning.specs.Causal.Sources.{below}
use Rattle.hp_meaning.specs.Contract.Memory.{number_in}
use Rattle.law_games.specs.Wires.Wired.{Held, held, held_at}
use Rattle.law_drawing.specs.Carrying.Laws.{Frame}
use Rattle.law_drawing.specs.Carrying.WholeBlocks.{IsPart}
use Rattle.law_drawing.proofs.CarryingLemmas.Stored.{stored-part}
use Rattle.law_drawing.proofs.CarryingLemmas.Parts.{at-part}

-- ---- parts

pub part-at : (F : Frame) (step : Step) (m : Held) (now stay : Instant) (w : TreePlace → TreePlace) (here cut kept : Bool) (begin after shown solved : Instant)
    → IsPart F m now stay w here cut kept begin after shown solved → IsPart F (held_at step m) (part step now) (part step stay) (below step w) here cut kept (part step begin) (part step after) (part step shown) (part step solved)
part-at F step m now stay w here cut kept begin after shown solved h = record {
  solves = ap (part step) h.solves;
  zeros = λ p. h.zeros (step ∷ p);
  given = λ p. h.given (step ∷ p);
  stored = stored-part step here cut kept begin m.memory stay after (λ p. F.raw (w p)) (λ p. F.next (w p)) h.stored;
  placed = at-part step F.wires F.showing here w now shown h.placed;
  same = h.same;
}

-- ---- a branch: there where the part is there and a condition holds

-- what it keeps where it is not there
abbrev pub branch_stay : Bool → Instant → Instant → Instant
branch_stay here memory stay p = if here then memory p else stay p

module _ (F : Frame) (m : Held) (now stay : Instant) (w : TreePlace → TreePlace) (here cut kept : Bool) (begin : Instant) where
  pub part-branch : (taken : Bool) (after shown solved : Instant)
      → IsPart F m now stay w here cut kept begin (if taken then after else m.memory) (if taken then shown else nothing) solved → IsPart F m now (branch_stay here m.memory stay) w (here && taken) cut kept begin after shown solved
  part-branch taken after shown solved h = record {
    solves = h.solves;
    zeros = h.zeros;
    given = h.given;
    stored = record {
      reads = h.stored.reads;
      keeps = λ p. keeps here h.stored.keeps h.same p;
      nexts = λ p. nexts here taken h.stored.nexts p;
    };
    placed = record { inside = h.placed.inside; wires_are = h.placed.wires_are; shown_is = λ p. shows here taken h.placed.shown_is p };
    same = λ e. h.same (both-true here taken e);
  }
    where
      both-true : (a b : Bool) → a && b ≡ true → a ≡ true
      both-true true b e = refl
      both-true false b e = absurd cc

      keeps : (here : Bool) → ((p : TreePlace) → number_in (stay p) ≡ (if kept then number_in (begin p) else number_in (F.raw (w p)))) → (here ≡ true → kept ≡ cut) → (p : TreePlace)
          → number_in (branch_stay here m.memory stay p) ≡ (if kept then number_in (begin p) else number_in (F.raw (w p)))
      keeps true k s p = h.stored.reads p ∙ ap (λ b. if b then number_in (begin p) else number_in (F.raw (w p))) (sym (s refl))
      keeps false k s p = k p

      nexts : (here taken : Bool) → ((p : TreePlace) → number_in (F.next (w p)) ≡ (if here then number_in ((if taken then after else m.memory) p) else number_in (stay p))) → (p : TreePlace)
          → number_in (F.next (w p)) ≡ (if here && taken then number_in (after p) else number_in (branch_stay here m.memory stay p))
      nexts true true n p = n p
      nexts true false n p = n p
      nexts false taken n p = n p

      shows : (here taken : Bool) → ((p : TreePlace) → F.showing (w p) ≡ (if here then (if taken then shown else nothing) p else Absent)) → (p : TreePlace) → F.showing (w p) ≡ (if here && taken then shown p else Absent)
      shows true true n p = n p
      shows true false n p = n p
      shows false taken n p = n p

  -- ---- and one that begins anew where a condition holds

  abbrev pub anew_kept : Bool → Bool
  anew_kept fresh = if here then cut || fresh else kept

  abbrev pub anew_held : Bool → Held
  anew_held fresh = held m.start (if fresh then begin else m.memory) m.free

  pub part-anew : (fresh : Bool) (after shown solved : Instant)
      → IsPart F m now stay w here cut kept begin after shown solved → IsPart F (anew_held fresh) now (branch_stay here (anew_held fresh).memory stay) w here (cut || fresh) (anew_kept fresh) begin after shown solved
  part-anew fresh after shown solved h = record {
    solves = h.solves;
    zeros = h.zeros;
    given = h.given;
    stored = record { reads = λ p. reads cut fresh h.stored.reads p; keeps = λ p. keeps here h.stored.keeps p; nexts = λ p. nexts here h.stored.nexts p };
    placed = h.placed;
    same = λ e. same here e;
  }
    where
      reads : (cut fresh : Bool) → ((p : TreePlace) → number_in (m.memory p) ≡ (if cut then number_in (begin p) else number_in (F.raw (w p)))) → (p : TreePlace)
          → number_in ((if fresh then begin else m.memory) p) ≡ (if cut || fresh then number_in (begin p) else number_in (F.raw (w p)))
      reads true true r p = refl
      reads true false r p = r p
      reads false true r p = refl
      reads false false r p = r p

      keeps : (here : Bool) → ((p : TreePlace) → number_in (stay p) ≡ (if kept then number_in (begin p) else number_in (F.raw (w p)))) → (p : TreePlace)
          → number_in (branch_stay here (if fresh then begin else m.memory) stay p) ≡ (if (if here then cut || fresh else kept) then number_in (begin p) else number_in (F.raw (w p)))
      keeps true k p = reads cut fresh h.stored.reads p
      keeps false k p = k p

      nexts : (here : Bool) → ((p : TreePlace) → number_in (F.next (w p)) ≡ (if here then number_in (after p) else number_in (stay p))) → (p : TreePlace)
          → number_in (F.next (w p)) ≡ (if here then number_in (after p) else number_in (branch_stay here (if fresh then begin else m.memory) stay p))
      nexts true n p = n p
      nexts false n p = n p

      same : (here : Bool) → here ≡ true → (if here then cut || fresh else kept) ≡ cut || fresh
      same true e = refl
      same false e = absurd cc
