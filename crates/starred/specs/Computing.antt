-- Opens every definition: a declaration that computes says `unfolding computing`. Definitions only.
use Rattle.std.specs.Prelude.{ℕ}
use mathlib.Core.List.{flat_map, zip_with}
use Rattle.std.specs.Int.Count.{count_trailing_zeros}
use Rattle.std.specs.Float.Ieee.{span, climb, size, odd, units, round, neg, sum, add, sub, mul, div, lt, eq, le, ne, of_int, to_unsigned, of_fields, of_bits, to_bits}
use Rattle.spec.specs.Floats.{abs_float, round_as_u64}
use Rattle.spec.specs.Root.{whole_root, root_of, sqrt_float}
use Rattle.spec.specs.Lists.{places_from, count_of, counts, stored, lowest, highest, sum_of, any}
use Rattle.spec.specs.Strategies.{is_clahe, is_tamed}
use Rattle.spec.specs.Answer.{first_of, or_refused, answer, number, reply_number, after}
use Rattle.spec.specs.Pixels.{pixel, pixels, valid_of, is_on}
use Rattle.spec.specs.Refusals.{sides_refused, unlike, lengths_refused, work_refused, too_long, marks_refused, decibel_refused, decibels_refused, side_refused, tiles_refused}
use Rattle.spec.specs.Moments.{no_moments, with_value, moments_from, span_of, is_flat}
use Rattle.spec.specs.Strongest.{is_new_max, strongest_from, strongest, place_in}
use Rattle.spec.specs.Bins.{bin_of, histogram, bins_of}
use Rattle.spec.specs.Percentile.{target_of, find_bin, value_at, flat_percentile, spread_percentile, estimate_percentile}
use Rattle.spec.specs.Statistics.{deviation_of, gathered, summary, summary_of, statistics_of, placed_statistics, compute_histogram_stats}
use Rattle.spec.specs.Curve.{curve_of, compute_histogram}
use Rattle.spec.specs.Window.{opened, valid_range, low_contrast_clip, outlier, heavy_tailed_clip, high_range_clip, normal_clip, standard_clip, robust_clip, skew_factor, tail_heaviness, adaptive_clip, choose_clip, window_of, tamed_clip, picture_window, gamma_refused, window_floats, autoscale_window}
use Rattle.spec.specs.Value.{normalized, value_of, paint}
use Rattle.spec.specs.Gamma.{reaches_byte, largest, gamma_value, curve, curved, grey_value}
use Rattle.spec.specs.Stretch.{stretch_byte, stretch, scale_u16_to_u8}
use Rattle.spec.specs.Clahe.{tile_size, tile_pixels, level_of, tile_counts, threshold, clipped, excess, one_by_one, shared, clip_at, clip, tile_table, tile_tables, sum_at, tile_position, blend, sample, equalised, clahe_values}
use Rattle.spec.specs.RowResults.{result_at, clahe_results, tile_sums, result_of, row_results}
use Rattle.spec.specs.Colour.{reached, red, green, blue, red_above, green_above, blue_above, plain, suppressed, first_level, floor_level, colours_of, bytes_of, create_synthetic_rgb_by_mode_and_strategy}
use Rattle.spec.specs.Grey.{normal_pixel, black, values, grey_tests, autoscale_db_image_to_u8, autoscale_db_image_to_u16}
use Rattle.spec.specs.Picture.{picture_greys, composed, picture_tests, synthetic_rgb_picture}
use Rattle.spec.specs.Copol.{first_is_copol, second_is_copol, synthetic_rgb_picture_copol, synthetic_rgb_windows}
use Rattle.spec.specs.Padding.{pad_cell, padded, add_padding_to_square}
use Rattle.spec.specs.Ops.{sum_op, difference_op, guarded_ratio, ratio_op, log_ratio_op, normalized_diff_op, operate_arrays}
use Rattle.spec.specs.Marks.{mark_of, process_scalar_data_mask}
use Rattle.spec.specs.Places.{moved_picture}

unfoldable pub computing : ℕ
unfolding flat_map zip_with count_trailing_zeros span climb size odd units round neg sum add sub mul div lt eq le ne of_int to_unsigned of_fields of_bits to_bits abs_float round_as_u64 whole_root root_of sqrt_float places_from count_of counts stored lowest highest sum_of any is_clahe is_tamed first_of or_refused answer number reply_number after pixel pixels valid_of is_on sides_refused unlike lengths_refused work_refused too_long marks_refused decibel_refused decibels_refused side_refused tiles_refused no_moments with_value moments_from span_of is_flat is_new_max strongest_from strongest place_in bin_of histogram bins_of target_of find_bin value_at flat_percentile spread_percentile estimate_percentile deviation_of gathered summary summary_of statistics_of placed_statistics compute_histogram_stats curve_of compute_histogram opened valid_range low_contrast_clip outlier heavy_tailed_clip high_range_clip normal_clip standard_clip robust_clip skew_factor tail_heaviness adaptive_clip choose_clip window_of tamed_clip picture_window gamma_refused window_floats autoscale_window normalized value_of paint reaches_byte largest gamma_value curve curved grey_value stretch_byte stretch scale_u16_to_u8 tile_size tile_pixels level_of tile_counts threshold clipped excess one_by_one shared clip_at clip tile_table tile_tables sum_at tile_position blend sample equalised clahe_values result_at clahe_results tile_sums result_of row_results reached red green blue red_above green_above blue_above plain suppressed first_level floor_level colours_of bytes_of create_synthetic_rgb_by_mode_and_strategy normal_pixel black values grey_tests autoscale_db_image_to_u8 autoscale_db_image_to_u16 picture_greys composed picture_tests synthetic_rgb_picture first_is_copol second_is_copol synthetic_rgb_picture_copol synthetic_rgb_windows pad_cell padded add_padding_to_square sum_op difference_op guarded_ratio ratio_op log_ratio_op normalized_diff_op operate_arrays mark_of process_scalar_data_mask moved_picture
computing = 0
