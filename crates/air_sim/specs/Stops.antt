-- A site after a stop of the gateway.
use Rattle.std.specs.Prelude.{◌≡◌, List, [], ◌∷◌, ◌++◌}
use Rattle.disk_model.specs.Contents.{image_of}
use Rattle.disk_model.specs.MemDisk.{MemState, contents, fresh}
use Rattle.disk_model.specs.declared.images.Image.{Image}
use Rattle.air_sim.specs.declared.notes.Note.TheVariants.{Quiet}
use Rattle.air_sim.specs.declared.sim_site.SimSite.{SimSite}

-- the journal's disk holds what the stop left, and all else stands
pub record IsStopped {B C : Type 0} (old new : SimSite MemState B C) (image : Image) : Type 0 where
  pub journal : new.parts.journal ≡ fresh (image_of (contents old.parts.journal) image)
  pub past : new.past.items ≡ old.past.items ++ (old.parts, Quiet) ∷ []
  pub same : new ≡ record old { parts = record old.parts { journal = new.parts.journal }; past = new.past }
