-- What a vault counts of its reads.
use Rattle.lv_outside.specs.Count.{next_count}
use Rattle.lv_outside.specs.declared.counts.Counts.{Counts}
use Rattle.lv_outside.specs.declared.answer.Fetch.{Fetch}
use Rattle.lv_outside.specs.declared.answer.Fetch.TheVariants.{Got, Absent, TooLong, Failed, NoMemory}

-- nothing is counted yet
abbrev pub no_counts : Counts
no_counts = record { faults = 0; absences = 0; longs = 0 }

-- the counts with this answer of a read
abbrev pub counted : Counts → Fetch → Counts
counted counts Got = counts
counted counts Absent = record counts { absences = next_count counts.absences }
counted counts TooLong = record counts { longs = next_count counts.longs }
counted counts Failed = record counts { faults = next_count counts.faults }
counted counts NoMemory = counts
