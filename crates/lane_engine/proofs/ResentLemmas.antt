-- A reservation that is sent again.
use Rattle.std.proofs.Common.{◌≡◌, ℕ, Option, Some, Result, Ok, Err, List, refl, sym, ap, subst}
use Rattle.disk_model.specs.Disk.{Meaning, Tells}
use Rattle.ota_core.specs.Entry.{Reservation}
use Rattle.counter_journal.specs.JournalReading.{JournalValue}
use Rattle.site_model.specs.Port.{PortState}
use Rattle.site_model.specs.Cards.{port_now}
use Rattle.site_model.specs.declared.departures.Departure.{Departure}
use Rattle.world_core.specs.Packet.{Packet, packet_at, place_at}
use Rattle.world_core.specs.declared.lines.Line.{Line}
use Rattle.lane_engine.specs.Departing.{AreHandedOver, IsResent, ResendingEvents, departures_under, packet_under, pieces_at}
use Rattle.lane_engine.specs.LaneValue.{LaneValue}
use Rattle.lane_engine.specs.Packets.{departures_if}
use Rattle.lane_engine.specs.Sending.{HandsOverBuilt, IsOkOrFault}
use Rattle.lane_engine.specs.declared.answers.LaneErr.{LaneErr}
use Rattle.lane_engine.specs.declared.answers.LaneErr.TheVariants as lane_err
use Rattle.lane_engine.proofs.CourseLemmas.{journal_of, ok_or_fault}
use Rattle.lane_engine.proofs.LeavingLemmas.{at_reserved}
use Rattle.lane_engine.proofs.SentLemmas.{hands_all, hands_first, hands_run, hands_run_all}

module _ {D B C : Type 0} (told : Meaning D B C) (port : B → PortState) (lines : C → ℕ → List Line) (old new : LaneValue D) (place : Reservation) (found : ℕ) (result : Result (Unit {0}) LaneErr)
    (answer : IsOkOrFault result) (resent : IsResent old new result)
    (hands : Tells told old.site → HandsOverBuilt told port lines old.journal.entries old.site new.site (departures_if (packet_at old.journal.entries found)) (pieces_at old.journal.entries found) result)
    (at : place_at old.journal.entries found ≡ Some place) (packet : packet_under old.journal.entries place ≡ packet_at old.journal.entries found) where
  entries : new.journal.entries ≡ old.journal.entries
  entries = ap (λ (j : JournalValue). j.entries) (journal_of old new result answer resent)

  abbrev departures : List Departure
  departures = departures_if (packet_at old.journal.entries found)

  pub resent_sent : Tells told old.site → AreHandedOver (departures_under old.journal.entries place) (port_now told port lines old.site) (port_now told port lines new.site) result
  resent_sent tells =
      subst (λ (p : Option Packet). AreHandedOver (departures_if p) (port_now told port lines old.site) (port_now told port lines new.site) result) (sym packet)
      (ok_or_fault
      (λ r. HandsOverBuilt told port lines old.journal.entries old.site new.site departures (pieces_at old.journal.entries found) r → AreHandedOver departures (port_now told port lines old.site) (port_now told port lines new.site) r)
      (λ h. (hands_all told port lines old.journal.entries old.site new.site departures (pieces_at old.journal.entries found) (Ok tt) h (at_reserved old.journal.entries found) h.all.0 h.all.1 h.all.2).0)
      (λ named h. hands_first told port lines old.journal.entries old.site new.site departures (pieces_at old.journal.entries found) (Err (lane_err.SiteFault named)) h (at_reserved old.journal.entries found))
      result answer (hands tells))

  pub resent_events : Tells told old.site → ResendingEvents told port lines old new place result
  resent_events tells = ok_or_fault
      (λ r. HandsOverBuilt told port lines old.journal.entries old.site new.site departures (pieces_at old.journal.entries found) r → ResendingEvents told port lines old new place r)
      (λ h. (
        found,
        at,
        hands_run_all told port lines old.journal.entries old.site new.site departures (pieces_at old.journal.entries found) (Ok tt) h (at_reserved old.journal.entries found) h.all.0 h.all.1 h.all.2 old new refl refl entries refl,
      ))
      (λ named h. (
        found,
        at,
        hands_run told port lines old.journal.entries old.site new.site departures (pieces_at old.journal.entries found) (Err (lane_err.SiteFault named)) h (at_reserved old.journal.entries found) old new refl refl entries refl,
      ))
      result answer (hands tells)
