use Rattle.vt_parts.specs.inside.HistogramLaws.{empty_histogram_is, counted_is, uncounted_counted}
use Rattle.vt_parts.proofs.HistogramTotal.{total_counted}
use Rattle.vt_parts.proofs.histogram.histograms_count.Goals as goal

pub returns-clause-begins : goal.returns-clause-begins
returns-clause-begins g c = λ width. empty_histogram_is width

pub returns-clause-stays : goal.returns-clause-stays
returns-clause-stays g c = λ h value is. counted_is h value is

pub returns-clause-undone : goal.returns-clause-undone
returns-clause-undone g c = λ h value is. uncounted_counted h value is

pub returns-clause-total : goal.returns-clause-total
returns-clause-total g c = λ h value is. total_counted h value is
