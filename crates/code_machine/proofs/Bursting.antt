-- Steps of a burst, one after another.
use Rattle.std.proofs.Common.{◌≡◌, refl, ℕ, ◌+◌, ◌<◌, ◌≤◌, All, [], length, vec_capacity, Vec, Global, subst, ap, sym, arith}
use Rattle.kernel_base.specs.declared.request.Request.{Request}
use Rattle.world_model.specs.Journal.{ticks_of}
use Rattle.code_types.specs.declared.code.Code.{Code}
use Rattle.code_types.specs.State.{State}
use Rattle.code_types.specs.Talk.{Leads}
use Rattle.code_safety.specs.Standing.{StandsOn}
use Rattle.code_safety.proofs.SingleMoves.{no_move_leads}
use Rattle.code_safety.proofs.StandingOn.{stands_after_going, stands_after_tick, stands_after_asking}
use Rattle.machine_steps.specs.declared.process.Doing.{Doing}
use Rattle.machine_steps.specs.declared.process.Doing.TheVariants.{Running, Called, Asking, Raising, Ended}
use Rattle.machine_steps.specs.declared.process.Process.{Process}
use Rattle.machine_steps.specs.declared.process.RegionEntry.{RegionEntry}
use Rattle.machine_steps.specs.declared.process.Stepped.TheVariants.{GoesOn, Ticks, Asks}
use Rattle.machine_steps.specs.declared.room.Room.{Room}
use Rattle.machine_steps.specs.Asking.{HasFewSlots}
use Rattle.machine_steps.specs.Rooms.{HasLists, HasRoomFor, StaysRoomy, StaysUnlessAsked}
use Rattle.machine_steps.specs.Stepping.{Steps}
use Rattle.machine_steps.specs.Views.{mode_of, state_of}
use Rattle.code_machine.specs.Equipment.{IsEquippedToStep}
use Rattle.code_machine.specs.Running.{Bursts, HasRoomIn, IsUnderway, IsUp, RunsOn}
use Rattle.code_machine.specs.declared.burst.Stop.TheVariants.{Asks as StopsAsking, Paused}
use Rattle.code_machine.proofs.Equipping.{equipped_to_step}
use Rattle.code_machine.proofs.StepsLead.{goes_more, makes_more, asks_more, move_up, GoesUp}

-- what is underway can make a step
pub can_step : (code : Code) (most : ℕ) (from : State) (ticks : ℕ) (p : Process) (room : Room) → IsUnderway code most from ticks p room → IsEquippedToStep code p room
can_step code most from ticks p room u = equipped_to_step code p room u.height u.stands u.short u.frames u.heights u.lists u.up

-- frames that have room keep it
frames_stay : (code : Code) (old new : Process) → StaysRoomy old new → HasRoomFor code old → HasRoomFor code new
frames_stay code old new stays r = record { height = r.height; locals = r.locals; heights = r.heights; stores = r.stores; room = stays.frames r.height r.locals r.room }

regions_stay : (old new : Process) → StaysRoomy old new → length old.regions.items + 1 ≤ vec_capacity old.regions → length new.regions.items + 1 ≤ vec_capacity new.regions
regions_stay old new stays h = rw stays.regions h

-- a step without a tick
pub goes_on : (code : Code) (most : ℕ) (from : State) (ticks : ℕ) (old new : Process) (room after : Room)
    → IsUnderway code most from ticks old room
    → Steps code old new GoesOn → StaysRoomy old new → StaysUnlessAsked GoesOn room after
    → IsUnderway code most from ticks new after
goes_on code most from ticks old new room after u steps stays kept = record {
  stands = stands_after_going code (state_of old) (state_of new) u.stands steps;
  short = u.short;
  frames = frames_stay code old new stays u.frames;
  regions = regions_stay old new stays u.regions;
  up = subst GoesUp steps (move_up code (state_of old));
  height = u.height;
  heights = u.heights;
  lists = kept u.height u.lists;
  leads = goes_more code from (state_of old) (state_of new) ticks u.leads steps;
  below = u.below;
}

-- a tick that isn't the last
pub ticks_on : (code : Code) (most : ℕ) (from : State) (ticks : ℕ) (old new : Process) (room after : Room)
    → IsUnderway code most from ticks old room
    → Steps code old new Ticks → StaysRoomy old new → StaysUnlessAsked Ticks room after
    → ticks + 1 < most
    → IsUnderway code most from (ticks + 1) new after
ticks_on code most from ticks old new room after u steps stays kept fewer = record {
  stands = stands_after_tick code (state_of old) (state_of new) u.stands steps;
  short = u.short;
  frames = frames_stay code old new stays u.frames;
  regions = regions_stay old new stays u.regions;
  up = subst GoesUp steps (move_up code (state_of old));
  height = u.height;
  heights = u.heights;
  lists = kept u.height u.lists;
  leads = makes_more code from (state_of old) (state_of new) ticks u.leads steps;
  below = fewer;
}

-- the room that a process has for what it is about
room_in : (doing : Doing) (code : Code) (p : Process) → HasRoomFor code p → length p.regions.items + 1 ≤ vec_capacity p.regions → HasRoomIn doing code p
room_in Running code p frames regions = frames
room_in Called code p frames regions = frames
room_in (Asking request slots) code p frames regions = (frames, regions)
room_in (Raising exception) code p frames regions = frames
room_in Ended code p frames regions = tt

pub room_for : (doing : Doing) (code : Code) (p : Process) → IsUp (mode_of doing) → HasRoomIn doing code p → HasRoomFor code p
room_for Running code p up r = r
room_for Called code p up r = r
room_for (Asking request slots) code p up r = absurd up
room_for (Raising exception) code p up r = r
room_for Ended code p up r = absurd up

-- a step keeps a process running on its code
stays_on : (code : Code) (most : ℕ) (from : State) (ticks : ℕ) (old new : Process) (room : Room)
    → IsUnderway code most from ticks old room
    → StandsOn code (state_of new) → StaysRoomy old new → HasFewSlots new.doing
    → RunsOn code new
stays_on code most from ticks old new room u stands stays few = record {
  stands = stands;
  short = u.short;
  room = room_in new.doing code new (frames_stay code old new stays u.frames) (regions_stay old new stays u.regions);
  few = few;
}

pub asks_runs : (code : Code) (most : ℕ) (from : State) (ticks : ℕ) (old new : Process) (room : Room) (request : Request)
    → IsUnderway code most from ticks old room
    → Steps code old new (Asks request) → StaysRoomy old new → HasFewSlots new.doing
    → RunsOn code new
asks_runs code most from ticks old new room request u steps stays few =
    stays_on code most from ticks old new room u (stands_after_asking code (state_of old) (state_of new) request u.stands steps) stays few

pub pauses_runs : (code : Code) (most : ℕ) (from : State) (ticks : ℕ) (old new : Process) (room : Room)
    → IsUnderway code most from ticks old room
    → Steps code old new Ticks → StaysRoomy old new → HasFewSlots new.doing
    → RunsOn code new
pauses_runs code most from ticks old new room u steps stays few =
    stays_on code most from ticks old new room u (stands_after_tick code (state_of old) (state_of new) u.stands steps) stays few

-- the burst ends with a request
pub asks_bursts : (code : Code) (most : ℕ) (from : State) (ticks : ℕ) (old new : Process) (room : Room) (request : Request)
    → IsUnderway code most from ticks old room
    → Steps code old new (Asks request)
    → Bursts code most from (state_of new) (StopsAsking ticks request)
asks_bursts code most from ticks old new room request u steps =
    (let more = asks_more code from (state_of old) (state_of new) ticks request u.leads steps in (u.below, more.0, more.1))

-- the burst ends with its last tick
pub pauses_bursts : (code : Code) (most : ℕ) (from : State) (ticks : ℕ) (old new : Process) (room : Room)
    → IsUnderway code most from ticks old room
    → Steps code old new Ticks
    → ticks + 1 ≡ most
    → Bursts code most from (state_of new) (Paused (ticks + 1))
pauses_bursts code most from ticks old new room u steps last =
    (last, subst (λ (n : ℕ). Leads code from [] (ticks_of n) (state_of new)) last (makes_more code from (state_of old) (state_of new) ticks u.leads steps), subst GoesUp steps (move_up code (state_of old)))

-- a process with other room for its regions is the same process
state_with : (p : Process) (regions : Vec RegionEntry Global) → regions.items ≡ p.regions.items → state_of (record p { regions = regions }) ≡ state_of p
state_with p regions items = rw items refl

frames_with : (code : Code) (p : Process) (regions : Vec RegionEntry Global) → HasRoomFor code p → HasRoomFor code (record p { regions = regions })
frames_with code p regions r = record {
  height = r.height;
  locals = r.locals;
  heights = r.heights;
  stores = r.stores;
  room = record { top = r.room.top; below = r.room.below; spare = r.room.spare; count = r.room.count; depth = r.room.depth; unused = r.room.unused };
}

room_with : (doing : Doing) (code : Code) (p : Process) (regions : Vec RegionEntry Global) → regions.items ≡ p.regions.items → vec_capacity p.regions ≤ vec_capacity regions → HasRoomIn doing code p → HasRoomIn doing code (record p { regions = regions })
room_with Running code p regions items more r = frames_with code p regions r
room_with Called code p regions items more r = frames_with code p regions r
room_with (Asking request slots) code p regions items more r = (frames_with code p regions r.0, (let had = r.1 in let same = ap length items in omega arith))
room_with (Raising exception) code p regions items more r = frames_with code p regions r
room_with Ended code p regions items more r = tt

-- where there is no memory, a process runs on as before
pub runs_with : (code : Code) (p : Process) (regions : Vec RegionEntry Global) → RunsOn code p → regions.items ≡ p.regions.items → vec_capacity p.regions ≤ vec_capacity regions → RunsOn code (record p { regions = regions })
runs_with code p regions runs items more = record {
  stands = subst (StandsOn code) (sym (state_with p regions items)) runs.stands;
  short = runs.short;
  room = room_with p.doing code p regions items more runs.room;
  few = runs.few;
}

-- a process that runs on its code can set out, once there is room for one more region and for a request
pub sets_out : (code : Code) (most : ℕ) (p : Process) (regions : Vec RegionEntry Global) (room : Room) (height : ℕ)
    → RunsOn code p → IsUp (state_of p).mode → 1 ≤ most
    → regions.items ≡ p.regions.items
    → length regions.items + 1 ≤ vec_capacity regions
    → All (λ row. row.height ≤ height) code.bodies → HasLists height room
    → IsUnderway code most (state_of (record p { regions = regions })) 0 (record p { regions = regions }) room
sets_out code most p regions room height runs up least items more heights lists = record {
  stands = subst (StandsOn code) (sym (state_with p regions items)) runs.stands;
  short = runs.short;
  frames = frames_with code p regions (room_for p.doing code p up runs.room);
  regions = more;
  up = up;
  height = height;
  heights = heights;
  lists = lists;
  leads = no_move_leads code (state_of (record p { regions = regions }));
  below = least;
}
