use Rattle.std.proofs.Common.{◌≡◌, List, [], ◌∷◌, ◌++◌, subst, sym, ap, ◌∙◌, map, length, arith}
use Rattle.std.specs.Vec.Iter.{into_iter_items}
use Rattle.hp_obc.specs.CommandView.{cmd_seen}
use Rattle.hp_obc.specs.Commands.{cmds_of, and_then}
use Rattle.hp_fuse.specs.Fusing.{is_steady, followed, led_by, joined}
use Rattle.hp_fuse.specs.Likeness.{AreAlike}
use Rattle.hp_obc.specs.declared.command.Cmd.{Cmd}
use Rattle.hp_fuse.specs.Joining.{ahead}
use Rattle.hp_fuse.proofs.Steps.{one_pushed, seen_ahead, steady_next, joined_one, alike_one, joined_apart, alike_apart, alike_parts, joined_end}
use Rattle.hp_fuse.proofs.join.join_into.Goals as goal

pub returns-in-Err-clause-alike : goal.returns-in-Err-clause-alike
returns-in-Err-clause-alike c =
    let l = c.loop-found in
    let into = map cmd_seen l.into.items in
    alike_parts (and_then (cmd_seen c.args.first) (cmds_of (ahead c.args.rest))) (map cmd_seen l.into.items) (map cmd_seen c.push_reserved.new.self.items) (map cmd_seen c.push_reserved-in-Err.new.self.items) (map cmd_seen c.move_rest.new.into.items)
    (cmd_seen l.last) (cmd_seen c.in-Some.found) (cmd_seen c.join.new.first) (cmd_seen c.join.new.second) (ahead l.rest) (ahead c.next.new.self) l.invariant.alike
    (seen_ahead (into_iter_items l.rest) (into_iter_items c.next.new.self) c.in-Some.found c.in-Some.ensures.items) (sym c.if-are_joinable.ensures) c.in-Err.ensures.partly
    (one_pushed l.into.items c.push_reserved.new.self.items c.join.new.first c.push_reserved.ensures.items)
    (one_pushed c.push_reserved.new.self.items c.push_reserved-in-Err.new.self.items c.join.new.second c.push_reserved-in-Err.ensures.items)
    c.move_rest.ensures

pub loop-found-preserved-in-Ok : goal.loop-found-preserved-in-Ok
loop-found-preserved-in-Ok c =
    let l = c.loop-found in
    let e : ahead l.rest ≡ cmd_seen c.in-Some.found ∷ ahead c.next.new.self = seen_ahead (into_iter_items l.rest) (into_iter_items c.next.new.self) c.in-Some.found c.in-Some.ensures.items in
    record {
      room = omega (arith, l.invariant.room, ap length e);
      steady = steady_next (cmd_seen l.last) (cmd_seen c.in-Some.found) (cmd_seen c.join.new.first) l.steady (sym c.if-are_joinable.ensures) l.invariant.steady c.in-Ok.ensures.one;
      joined = joined_one (led_by (cmd_seen c.args.first) (joined (cmds_of (ahead c.args.rest)))) (cmds_of (map cmd_seen l.into.items)) (cmd_seen l.last) (cmd_seen c.in-Some.found) (cmd_seen c.join.new.first) (ahead l.rest) (ahead c.next.new.self)
          l.invariant.joined e (sym c.if-are_joinable.ensures) c.in-Ok.ensures.one;
      alike = alike_one (and_then (cmd_seen c.args.first) (cmds_of (ahead c.args.rest))) (cmds_of (map cmd_seen l.into.items)) (cmd_seen l.last) (cmd_seen c.in-Some.found) (cmd_seen c.join.new.first) (ahead l.rest) (ahead c.next.new.self)
          l.invariant.alike e (sym c.if-are_joinable.ensures) c.in-Ok.ensures.one;
    }

pub loop-found-preserved : goal.loop-found-preserved
loop-found-preserved c =
    let l = c.loop-found in
    let e : ahead l.rest ≡ cmd_seen c.in-Some.found ∷ ahead c.next.new.self = seen_ahead (into_iter_items l.rest) (into_iter_items c.next.new.self) c.in-Some.found c.in-Some.ensures.items in
    let p : c.push_reserved-else-are_joinable.new.self.items ≡ l.into.items ++ l.last ∷ [] = c.push_reserved-else-are_joinable.ensures.items ∙ ap (λ z. l.into.items ++ z ∷ []) c.replace.ensures.value in
    let n : map cmd_seen c.push_reserved-else-are_joinable.new.self.items ≡ map cmd_seen l.into.items ++ cmd_seen l.last ∷ [] = one_pushed l.into.items c.push_reserved-else-are_joinable.new.self.items l.last p in
    record {
      room = omega (arith, l.invariant.room, ap length e, c.push_reserved-else-are_joinable.ensures.len, c.push_reserved-else-are_joinable.ensures.capacity);
      steady = c.is_steady-next_steady.ensures ∙ ap (λ z. is_steady (cmd_seen z)) (sym c.replace.ensures.after);
      joined = ap (λ z. followed (cmds_of (map cmd_seen c.push_reserved-else-are_joinable.new.self.items)) (led_by (cmd_seen z) (joined (cmds_of (ahead c.next.new.self))))) c.replace.ensures.after
          ∙ joined_apart (led_by (cmd_seen c.args.first) (joined (cmds_of (ahead c.args.rest)))) (map cmd_seen l.into.items) (map cmd_seen c.push_reserved-else-are_joinable.new.self.items) (cmd_seen l.last) (cmd_seen c.in-Some.found)
          (ahead l.rest) (ahead c.next.new.self) l.invariant.joined e (sym c.if-are_joinable.ensures) n;
      alike = subst (λ z. AreAlike (and_then (cmd_seen c.args.first) (cmds_of (ahead c.args.rest))) (followed (cmds_of (map cmd_seen c.push_reserved-else-are_joinable.new.self.items)) (and_then (cmd_seen z) (cmds_of (ahead c.next.new.self))))) (sym c.replace.ensures.after)
          (alike_apart (and_then (cmd_seen c.args.first) (cmds_of (ahead c.args.rest))) (map cmd_seen l.into.items) (map cmd_seen c.push_reserved-else-are_joinable.new.self.items) (cmd_seen l.last) (cmd_seen c.in-Some.found)
          (ahead l.rest) (ahead c.next.new.self) l.invariant.alike e n);
    }

nothing_left : (xs ys : List Cmd) → xs ≡ ys → length ys ≡ 0 → map cmd_seen xs ≡ []
nothing_left xs [] e h = ap (map cmd_seen) e
nothing_left xs (y ∷ ys) e h = absurd (omega (arith, h))

pub returns-clause-joined : goal.returns-clause-joined
returns-clause-joined c =
    let l = c.loop-found in
    joined_end (led_by (cmd_seen c.args.first) (joined (cmds_of (ahead c.args.rest)))) (map cmd_seen l.into.items) (map cmd_seen c.push_reserved-2.new.self.items) (cmd_seen l.last) (ahead l.rest) l.invariant.joined
    (nothing_left (into_iter_items l.rest) (into_iter_items c.next.new.self) c.in_default.ensures.items (omega (arith, c.in_default.ensures.cases.1, c.next.new.self.rest.ok.0))) (one_pushed l.into.items c.push_reserved-2.new.self.items l.last c.push_reserved-2.ensures.items)
