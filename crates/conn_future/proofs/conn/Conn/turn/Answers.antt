use Rattle.std.proofs.Common.{◌+◌, inl, [], length, refl, ap}
use Rattle.conn_future.specs.Stages.{is_live}
use Rattle.conn_future.proofs.Cases.{both_not, none_more, wait_not, always_again, never_again, never_wait, some_of, empty_of, going_not}
use Rattle.conn_future.proofs.Making.{made_up_to, made_all}
use Rattle.conn_future.proofs.Moved.{drains_none}
use Rattle.conn_core.proofs.Growing.{stays}
use Rattle.conn_future.proofs.Standing.{stays_none}
use Rattle.conn_future.proofs.conn.Conn.turn.Goals as goal
use Rattle.conn_future.proofs.conn.Conn.turn.Goals.{else-not-is_empty-via-then-not-is_empty+else-not-waits, else-not-is_empty-via-else-not-is_empty}

-- ---- behind a call that writes

pub write-requires-clause-live : goal.write-requires-clause-live
write-requires-clause-live g c = c.requires.live

pub write-requires-clause-none_held : goal.write-requires-clause-none_held
write-requires-clause-none_held g c = c.requires.none_held

pub write-requires-clause-can_wait : goal.write-requires-clause-can_wait
write-requires-clause-can_wait g c = c.if-not-waits.true

pub write-requires-clause-some : goal.write-requires-clause-some
write-requires-clause-some g c = some_of _ _ _ refl c.is_empty.ensures c.if-not-is_empty.true

pub returns-then-not-waits-clause-follows : goal.returns-then-not-waits-clause-follows
returns-then-not-waits-clause-follows g c = c.write.ensures.follows

pub returns-then-not-waits-clause-goes_on : goal.returns-then-not-waits-clause-goes_on
returns-then-not-waits-clause-goes_on g c = c.write.ensures.goes_on

pub returns-then-not-waits-clause-failures : goal.returns-then-not-waits-clause-failures
returns-then-not-waits-clause-failures g c = c.write.ensures.failures

pub returns-then-not-waits-clause-unshut : goal.returns-then-not-waits-clause-unshut
returns-then-not-waits-clause-unshut g c other = c.write.ensures.unshut

pub returns-then-not-waits-clause-shutting : goal.returns-then-not-waits-clause-shutting
returns-then-not-waits-clause-shutting g c = c.write.ensures.shutting

pub returns-then-not-waits-clause-waits : goal.returns-then-not-waits-clause-waits
returns-then-not-waits-clause-waits g c = c.write.ensures.waits

pub returns-then-not-waits-clause-covers : goal.returns-then-not-waits-clause-covers
returns-then-not-waits-clause-covers g c waited = never_wait _ c.write.result c.write.ensures.no_wait

pub returns-then-not-waits-clause-stage : goal.returns-then-not-waits-clause-stage
returns-then-not-waits-clause-stage g c = c.write.ensures.stage

pub returns-then-not-waits-clause-closes : goal.returns-then-not-waits-clause-closes
returns-then-not-waits-clause-closes g c = c.write.ensures.closes

pub returns-then-not-waits-clause-why : goal.returns-then-not-waits-clause-why
returns-then-not-waits-clause-why g c = c.write.ensures.why

pub returns-then-not-waits-clause-moved : goal.returns-then-not-waits-clause-moved
returns-then-not-waits-clause-moved g c is = c.write.ensures.moved

pub returns-then-not-waits-clause-came : goal.returns-then-not-waits-clause-came
returns-then-not-waits-clause-came g c going over = inl (c.write.ensures.came over)

pub returns-then-not-waits-clause-called : goal.returns-then-not-waits-clause-called
returns-then-not-waits-clause-called g c waited first before count it = always_again _ c.write.result (c.write.ensures.called waited first before count it)

pub returns-then-not-waits-clause-calls : goal.returns-then-not-waits-clause-calls
returns-then-not-waits-clause-calls g c waited first before count it =
    made_up_to g.L.Link.calls c.write.new.waits waited (length c.write.new.self.unsent.items) _ first c.write.new.self.link before c.write.new.cx (count + 1) (c.write.ensures.called waited first before count it)

pub returns-then-not-waits-clause-kept : goal.returns-then-not-waits-clause-kept
returns-then-not-waits-clause-kept g c = c.write.ensures.kept

-- ---- behind a call that reads

pub read-requires-clause-going : goal.read-requires-clause-going
read-requires-clause-going g c = c.in-Going.is

pub read-requires-clause-none_held : goal.read-requires-clause-none_held
read-requires-clause-none_held g c = c.requires.none_held

pub read-requires-clause-can_wait : goal.read-requires-clause-can_wait
read-requires-clause-can_wait g c = c.if-not-waits-2.true

pub read-requires-clause-written : goal.read-requires-clause-written
read-requires-clause-written g c can = elim c.else-not-is_empty.branch [
  | else-not-is_empty-via-then-not-is_empty+else-not-waits w ↦ absurd (both_not w.if-not-waits.false can)
  | else-not-is_empty-via-else-not-is_empty w ↦ empty_of _ _ _ refl c.is_empty.ensures w.if-not-is_empty.false
]

pub returns-in-Going-clause-follows : goal.returns-in-Going-clause-follows
returns-in-Going-clause-follows g c = c.read.ensures.follows

pub returns-in-Going-clause-goes_on : goal.returns-in-Going-clause-goes_on
returns-in-Going-clause-goes_on g c = c.read.ensures.goes_on

pub returns-in-Going-clause-failures : goal.returns-in-Going-clause-failures
returns-in-Going-clause-failures g c = c.read.ensures.failures

pub returns-in-Going-clause-unshut : goal.returns-in-Going-clause-unshut
returns-in-Going-clause-unshut g c other = c.read.ensures.unshut

pub returns-in-Going-clause-shutting : goal.returns-in-Going-clause-shutting
returns-in-Going-clause-shutting g c is = absurd (going_not c.in-Going.is is)

pub returns-in-Going-clause-waits : goal.returns-in-Going-clause-waits
returns-in-Going-clause-waits g c = c.read.ensures.waits

pub returns-in-Going-clause-covers : goal.returns-in-Going-clause-covers
returns-in-Going-clause-covers g c waited = never_wait _ c.read.result c.read.ensures.no_wait

pub returns-in-Going-clause-stage : goal.returns-in-Going-clause-stage
returns-in-Going-clause-stage g c = c.read.ensures.stage

pub returns-in-Going-clause-closes : goal.returns-in-Going-clause-closes
returns-in-Going-clause-closes g c is = absurd (going_not c.in-Going.is is)

pub returns-in-Going-clause-why : goal.returns-in-Going-clause-why
returns-in-Going-clause-why g c = c.read.ensures.why

pub returns-in-Going-clause-moved : goal.returns-in-Going-clause-moved
returns-in-Going-clause-moved g c is = c.read.ensures.moved

pub returns-in-Going-clause-came : goal.returns-in-Going-clause-came
returns-in-Going-clause-came g c going = c.read.ensures.came

pub returns-in-Going-clause-called : goal.returns-in-Going-clause-called
returns-in-Going-clause-called g c waited first before count it = always_again _ c.read.result (c.read.ensures.called waited first before count it)

pub returns-in-Going-clause-calls : goal.returns-in-Going-clause-calls
returns-in-Going-clause-calls g c waited first before count it =
    made_up_to g.L.Link.calls c.read.new.waits waited (length c.read.new.self.unsent.items) _ first c.read.new.self.link before c.read.new.cx (count + 1) (c.read.ensures.called waited first before count it)

pub returns-in-Going-clause-kept : goal.returns-in-Going-clause-kept
returns-in-Going-clause-kept g c = c.read.ensures.kept

-- ---- behind a call that shuts

pub close-requires-clause-shutting : goal.close-requires-clause-shutting
close-requires-clause-shutting g c = c.in-Shutting.is

pub close-requires-clause-none_held : goal.close-requires-clause-none_held
close-requires-clause-none_held g c = c.requires.none_held

pub close-requires-clause-none_left : goal.close-requires-clause-none_left
close-requires-clause-none_left g c = empty_of _ _ _ refl c.if-is_empty.ensures refl

pub returns-in-Shutting-clause-follows : goal.returns-in-Shutting-clause-follows
returns-in-Shutting-clause-follows g c = c.close.ensures.follows

pub returns-in-Shutting-clause-goes_on : goal.returns-in-Shutting-clause-goes_on
returns-in-Shutting-clause-goes_on g c = c.close.ensures.goes_on

pub returns-in-Shutting-clause-failures : goal.returns-in-Shutting-clause-failures
returns-in-Shutting-clause-failures g c = c.close.ensures.failures

pub returns-in-Shutting-clause-unshut : goal.returns-in-Shutting-clause-unshut
returns-in-Shutting-clause-unshut g c other = absurd (other c.in-Shutting.is)

pub returns-in-Shutting-clause-shutting : goal.returns-in-Shutting-clause-shutting
returns-in-Shutting-clause-shutting g c = c.close.ensures.shutting

pub returns-in-Shutting-clause-waits : goal.returns-in-Shutting-clause-waits
returns-in-Shutting-clause-waits g c waited = never_again _ c.close.result c.close.ensures.no_turn

pub returns-in-Shutting-clause-covers : goal.returns-in-Shutting-clause-covers
returns-in-Shutting-clause-covers g c waited = c.close.ensures.covers

pub returns-in-Shutting-clause-stage : goal.returns-in-Shutting-clause-stage
returns-in-Shutting-clause-stage g c = c.close.ensures.stage

pub returns-in-Shutting-clause-closes : goal.returns-in-Shutting-clause-closes
returns-in-Shutting-clause-closes g c = c.close.ensures.closes

pub returns-in-Shutting-clause-why : goal.returns-in-Shutting-clause-why
returns-in-Shutting-clause-why g c is = absurd (going_not is c.in-Shutting.is)

pub returns-in-Shutting-clause-moved : goal.returns-in-Shutting-clause-moved
returns-in-Shutting-clause-moved g c is = absurd (going_not is c.in-Shutting.is)

pub returns-in-Shutting-clause-came : goal.returns-in-Shutting-clause-came
returns-in-Shutting-clause-came g c is = absurd (going_not is c.in-Shutting.is)

pub returns-in-Shutting-clause-called : goal.returns-in-Shutting-clause-called
returns-in-Shutting-clause-called g c waited first before count it = never_again _ c.close.result c.close.ensures.no_turn

pub returns-in-Shutting-clause-calls : goal.returns-in-Shutting-clause-calls
returns-in-Shutting-clause-calls g c waited first before count it = c.close.ensures.called waited first before count c.args.waits.now it

pub returns-in-Shutting-clause-kept : goal.returns-in-Shutting-clause-kept
returns-in-Shutting-clause-kept g c = c.close.ensures.kept

-- ---- with no call

pub returns-in-Going-2-clause-follows : goal.returns-in-Going-2-clause-follows
returns-in-Going-2-clause-follows g c start role own first log gave standing = record {
  now = log;
  grown = stays log;
  follows = stays_none g.L.Link g.P.Protocols g.P.H.Handler start role own first log gave c.args.self.now.link c.args.self.now.core c.args.self.now.unsent.items c.args.self.now.held.items
      c.args.self.now.held.items c.args.self.now.stage refl standing;
  not_link = wait_not;
  not_none = wait_not;
}

pub returns-in-Going-2-clause-goes_on : goal.returns-in-Going-2-clause-goes_on
returns-in-Going-2-clause-goes_on g c = (refl, c.requires.none_held)

pub returns-in-Going-2-clause-failures : goal.returns-in-Going-2-clause-failures
returns-in-Going-2-clause-failures g c = none_more _

pub returns-in-Going-2-clause-unshut : goal.returns-in-Going-2-clause-unshut
returns-in-Going-2-clause-unshut g c other shut = shut

pub returns-in-Going-2-clause-shutting : goal.returns-in-Going-2-clause-shutting
returns-in-Going-2-clause-shutting g c is =
    (c.args.self.now.unsent.items, drains_none g.L.Link g.met.L.Link.moves_nothing c.args.self.now.link c.args.self.now.unsent.items, tt)

pub returns-in-Going-2-clause-stage : goal.returns-in-Going-2-clause-stage
returns-in-Going-2-clause-stage g c is = refl

pub returns-in-Going-2-clause-closes : goal.returns-in-Going-2-clause-closes
returns-in-Going-2-clause-closes g c is = inl is

pub returns-in-Going-2-clause-why : goal.returns-in-Going-2-clause-why
returns-in-Going-2-clause-why g c going over = absurd (both_not (ap is_live going) (ap is_live over))

pub returns-in-Going-2-clause-moved : goal.returns-in-Going-2-clause-moved
returns-in-Going-2-clause-moved g c going = ([], [], g.met.L.Link.moves_nothing c.args.self.now.link)

pub returns-in-Going-2-clause-came : goal.returns-in-Going-2-clause-came
returns-in-Going-2-clause-came g c going over = absurd (both_not (ap is_live going) over)

pub returns-in-Going-2-clause-calls : goal.returns-in-Going-2-clause-calls
returns-in-Going-2-clause-calls g c waited first before count it =
    made_all g.L.Link.calls c.args.waits.now waited (length c.args.self.now.unsent.items) _ first c.args.self.now.link before c.args.cx.now count it

pub returns-in-Going-2-clause-kept : goal.returns-in-Going-2-clause-kept
returns-in-Going-2-clause-kept g c fact holds = holds
