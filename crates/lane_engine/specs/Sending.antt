-- What calls leave that hand packets to the port.
use Rattle.std.specs.Prelude.{◌≡◌, ℕ, List, [], ◌++◌, map, Result, Ok, Err, OnOk}
use Rattle.std.specs.List.{range_with_len}
use Rattle.disk_model.specs.Disk.{Meaning}
use Rattle.ota_core.specs.Questions.{Reserved}
use Rattle.ota_core.specs.declared.cards.CardId.{CardId}
use Rattle.ota_core.specs.declared.entries.Entry.{Entry}
use Rattle.ota_core.specs.declared.keysets.KeysetFacts.{KeysetFacts}
use Rattle.ota_core.specs.declared.references.Reference.{Reference}
use Rattle.command_packet.specs.Carried.{carries}
use Rattle.site_model.specs.Port.{PortState}
use Rattle.site_model.specs.Cards.{Keeps, port_now}
use Rattle.site_model.specs.Runs.{PortRun}
use Rattle.site_model.specs.declared.departures.Departure.{Departure}
use Rattle.world_core.specs.Packet.{Packet}
use Rattle.world_core.specs.declared.lines.Line.{Line}
use Rattle.world_core.specs.declared.segments.Sent.{Sent}
use Rattle.lane_engine.specs.Departing.{IsUnasked}
use Rattle.lane_engine.specs.Packets.{keys_of, octets_of, spi_of}
use Rattle.lane_engine.specs.World.{AreSent}
use Rattle.lane_engine.specs.declared.answers.LaneErr.{LaneErr}
use Rattle.lane_engine.specs.declared.answers.LaneErr.TheVariants as lane_err

-- so many pieces of a packet, in order
abbrev pub handed : CardId → List ℕ → Reference → ℕ → List Departure
handed card packet reference pieces = map (λ place. record { card = card; packet = packet; reference = reference; place = place }) (range_with_len 1 pieces)

-- the packet of what is reserved, where its keyset is opened with these facts
abbrev pub packet_with : Reserved → KeysetFacts → Packet
packet_with reserved facts =
    record { keyset = reserved.keyset; counter = reserved.counter; tar = reserved.tar; body = reserved.body; opened = facts }

-- the packet's octets carry it
abbrev pub IsCarried : Packet → Type 0
IsCarried packet = carries (keys_of packet.opened) packet.keyset.kvn (octets_of packet)
    ≡ Ok (record { kvn = packet.keyset.kvn; spi = spi_of packet.opened; tar = packet.tar; counter = packet.counter; body = packet.body })

-- of these pieces the first ones were handed over, in order, and nothing was asked of the port
pub record AreHanded (departures : List Departure) (before now : PortState) : Type 0 where
  pub gone : List Departure
  pub still : List Departure
  pub are : departures ≡ gone ++ still
  pub sent : now.sent ≡ before.sent ++ gone
  pub unasked : IsUnasked before now

-- the only refusal is a fault of the site
abbrev pub IsOkOrFault : Result (Unit {0}) LaneErr → Type 0
IsOkOrFault (Ok done) = Unit {0}
IsOkOrFault (Err (lane_err.SiteFault fault)) = Unit {0}
IsOkOrFault (Err refusal) = ⊥

module _ {D B C : Type 0} (told : Meaning D B C) (port : B → PortState) (lines : C → ℕ → List Line) where
  -- Calls hand these pieces over, in order: at each moment the first of them were. The cards keep what they keep in each
  -- call of the port, and the disk stands still.
  pub record HandsOver (old new : D) (departures : List Departure) : Type 0 where
    pub moments : PortRun told old new (λ beside. AreHanded departures (port_now told port lines old) (port beside))
    pub keeps : Keeps told port lines old new
    pub content : told.seen new ≡ told.seen old

  -- all of them were handed over
  abbrev pub AreAllHanded : D → D → List Departure → Type 0
  AreAllHanded old new departures = (port_now told port lines new).sent ≡ (port_now told port lines old).sent ++ departures

  -- Packets of reservations of the history are built and handed over one after the other, up to a fault: the pieces of
  -- those that were built are pieces of these reservations.
  pub record HandsOverBuilt (history : List Entry) (old new : D) (departures : List Departure) (pieces : List Sent) (result : Result (Unit {0}) LaneErr) : Type 0 where
    pub built : List Departure
    pub rest : List Departure
    pub are : departures ≡ built ++ rest
    pub left : List Sent
    pub later : List Sent
    pub pieces_are : pieces ≡ left ++ later
    pub of_history : AreSent history built left
    pub run : HandsOver old new built
    -- without a fault all were built and handed over
    pub all : OnOk result ((rest ≡ []) × (later ≡ []) × AreAllHanded old new built)
